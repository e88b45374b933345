-- The keys are the numbers of the visits' loops.
use Rattle.std.proofs.Common.{arith, length}
use Rattle.std.proofs.lemmas.Grind.{common_steps}
use Rattle.tomex_loop_views.proofs.AtHeads.{numbers_low}
use Rattle.tomex_loop_views.proofs.places.around_in.Goals as goal

pub grouped-requires-clause-keys : goal.grouped-requires-clause-keys
grouped-requires-clause-keys g c =
    rw c.requires.loops (numbers_low (length c.args.heads.now) c.args.visits.now c.requires.numbers)

pub grouped-requires-clause-pairs : goal.grouped-requires-clause-pairs
grouped-requires-clause-pairs = grind (arith, common_steps)
