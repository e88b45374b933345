-- The totals so far are the programs', and those that weren't known are learnt.
use Rattle.tomex_plateaus.proofs.Knowing.{IsLearning}
use Rattle.tomex_plateaus.proofs.knowledge.Knowledge.learn.Given as goal

abbrev pub invariant-loop-place : goal.invariant-loop-place
invariant-loop-place g l = IsLearning l.fn.self.programs l.config l.known l.fn.self l.self l.place l.totals
