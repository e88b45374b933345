-- The programs so far end within their limits.
use Rattle.std.proofs.Common.{All, take}
use Rattle.tomex_study.specs.Program.{IsProgram}
use Rattle.tomex_study.proofs.study.each_ends.Given as goal

abbrev pub invariant-loop-program : goal.invariant-loop-program
invariant-loop-program g l = All IsProgram (take l.program-index l.programs)
