-- A front is sorted by cost.
use Rattle.std.proofs.Common.{subst}
use Rattle.tomex_pareto.specs.Pareto.{ComesBefore}
use Rattle.tomex_pareto.proofs.Ends.{first_on_hull, last_on_hull}
use Rattle.tomex_pareto.proofs.Pareto.{Rises, apart, front_is, has_contains}
use Rattle.tomex_pareto.proofs.laws.ends_of_the_front_are_on_the_hull.Goals as goal

pub returns-clause-first : goal.returns-clause-first
returns-clause-first c rows rest r numbered e =
    let up = (front_is rows (apart rows numbered)).rises in
    has_contains _ r (rw e (first_on_hull r rest (subst (Rises ComesBefore) e up)))

pub returns-clause-last : goal.returns-clause-last
returns-clause-last c rows rest r numbered e =
    let up = (front_is rows (apart rows numbered)).rises in
    has_contains _ r (rw e (last_on_hull r rest (subst (Rises ComesBefore) e up)))
