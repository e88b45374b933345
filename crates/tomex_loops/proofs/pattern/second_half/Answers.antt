-- All that is left from the middle on.
use Rattle.std.proofs.Common.{◌/◌, length}
use Rattle.std.proofs.lemmas.List.{take_rest}
use Rattle.tomex_loops.proofs.pattern.second_half.Goals as goal

pub returns : goal.returns
returns c = take_rest c.args.cycles.now (length c.args.cycles.now / 2)
