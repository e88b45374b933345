-- The rows so far are added up.
use Rattle.std.proofs.Common.{take}
use Rattle.tomex_functions.specs.Changes.{entries_of}
use Rattle.tomex_functions.specs.ChangesKept.{IsNamed, both_after}
use Rattle.tomex_functions.specs.Shares.{Both}
use Rattle.tomex_functions.proofs.builds.add_rows.Given as goal

abbrev pub invariant-loop-row : goal.invariant-loop-row
invariant-loop-row l =
    (both : Both) → IsNamed both l.fn.named
    → IsNamed (both_after l.side (take l.row-index (entries_of l.file l.rows)) both) l.named
