-- All numbers.
use Rattle.std.proofs.Common.{false, rules}
use Rattle.std.proofs.lemmas.List.FromFn.{fill_by_all}
use Rattle.tomex_choices.specs.Asking.{has_number}
use Rattle.tomex_choices.proofs.entries.numbers_of.Goals as goal

pub returns : goal.returns
returns c =
    fill_by_all (has_number c.args.rows.now c.args.part) c.loop-number.numbers 17 false c.loop-number.invariant.long
    (search rules)
