-- Each part of the facts was compared.
use Rattle.std.proofs.Common.{rules}
use Rattle.tomex_repeats.proofs.Alike.{like_from}
use Rattle.tomex_repeats.proofs.numbers.are_like.Goals as goal

pub returns : goal.returns
returns c = λ t. like_from c.args.a.now c.args.b.now (search rules) (search rules) (search rules) (search rules)
    (search rules) (search rules) (search rules) (search rules)
