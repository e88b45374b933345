-- The numbers so far reach as far down for the programs of the lists so far.
use Rattle.tomex_plateaus.proofs.Reaching.{AreTotalsBefore}
use Rattle.tomex_plateaus.proofs.knowledge.Knowledge.reach.Given as goal

abbrev pub invariant-loop-list : goal.invariant-loop-list
invariant-loop-list g l = AreTotalsBefore l.self.programs l.config l.part l.low l.list-index
