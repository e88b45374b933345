-- The rest of the line says where it ends.
use Rattle.std.proofs.Common.{◌≡◌, drop}
use Rattle.tomex_asm_text.specs.Values.{end_from}
use Rattle.tomex_asm_text.proofs.reading.line_end.Given as goal

abbrev pub invariant-loop-at : goal.invariant-loop-at
invariant-loop-at l = end_from l.end l.at (drop l.at l.line) ≡ end_from 0 0 l.line
