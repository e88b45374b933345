-- The runs so far, and the remaining ones.
use Rattle.std.proofs.Common.{◌≡◌, ◌++◌, drop, map}
use Rattle.tomex_study.specs.Program.{steps_of}
use Rattle.tomex_survey.proofs.floors.all_floored.Given as goal

abbrev pub invariant-loop-program : goal.invariant-loop-program
invariant-loop-program g l =
    l.all.items ++ map steps_of (drop l.program-index l.program-items) ≡ map steps_of l.program-items
