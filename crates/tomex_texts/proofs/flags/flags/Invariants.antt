-- The rows of the front so far are flagged.
use Rattle.std.proofs.Common.{take}
use Rattle.tomex_texts.proofs.Flagged.{AreFlags}
use Rattle.tomex_texts.proofs.flags.flags.Given as goal

abbrev pub invariant-loop-row : goal.invariant-loop-row
invariant-loop-row g l = AreFlags l.fn.rows (take l.row-index l.front) l.flags.items
