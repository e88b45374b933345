-- The costs so far are gathered.
use Rattle.tomex_board.proofs.Gathering.{AreGathered}
use Rattle.tomex_board.proofs.floors.distinct_costs.Given as goal

abbrev pub invariant-loop-cost : goal.invariant-loop-cost
invariant-loop-cost g l = AreGathered l.costs l.cost-index l.rising.keys l.latest
