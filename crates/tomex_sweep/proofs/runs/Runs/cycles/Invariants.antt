-- The cycles of the programs so far.
use Rattle.std.proofs.Common.{◌≡◌, take}
use Rattle.tomex_study.specs.Cycles.{cycles_on}
use Rattle.tomex_sweep.proofs.runs.Runs.cycles.Given as goal

abbrev pub invariant-loop-program : goal.invariant-loop-program
invariant-loop-program g l = l.cycles ≡ cycles_on (take l.program-index l.programs) l.config
