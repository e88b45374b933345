-- The ends of the programs so far.
use Rattle.std.proofs.Common.{take}
use Rattle.std.specs.List.{AllZip}
use Rattle.tomex_texts.specs.Ends.{IsProgramEnd}
use Rattle.tomex_report.proofs.program_ends.each_end.Given as goal

abbrev pub invariant-loop-program : goal.invariant-loop-program
invariant-loop-program g l = AllZip (IsProgramEnd l.config) (take l.program-index l.programs) l.ends.items
