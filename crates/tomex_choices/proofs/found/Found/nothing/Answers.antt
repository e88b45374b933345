-- Nothing is found of all lists.
use Rattle.std.proofs.Common.{arith}
use Rattle.tomex_choices.proofs.Finding.{none_found}
use Rattle.tomex_choices.proofs.found.Found.nothing.Goals as goal

pub returns-clause-lists : goal.returns-clause-lists
returns-clause-lists g c =
    λ s row. none_found s row c.loop-place.lists.items (omega arith) c.loop-place.invariant.none

pub loop-place-preserved : goal.loop-place-preserved
loop-place-preserved = grind arith
