-- A row is on the hull by its cost and cycles.
use Rattle.tomex_pareto.specs.Hull.{hull_of}
use Rattle.tomex_pareto.proofs.Ends.{equal_on_hull}
use Rattle.tomex_pareto.proofs.Pareto.{among, has_contains}
use Rattle.tomex_pareto.proofs.laws.equal_rows_stay_together.Goals as goal

pub returns : goal.returns
returns c front a b on one cost cycles = has_contains (hull_of front) b
    (equal_on_hull front a b (among (hull_of front) a on) (among front b one) cost cycles)
