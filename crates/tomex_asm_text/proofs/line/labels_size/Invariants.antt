-- The tokens so far, and those of the rest that are labels.
use Rattle.std.proofs.Common.{◌≡◌, ◌≤◌, ◌-◌, length, drop}
use Rattle.tomex_asm_text.specs.Lines.{labels_from}
use Rattle.tomex_asm_text.proofs.Sizes.{counted}
use Rattle.tomex_asm_text.proofs.line.labels_size.Given as goal

abbrev pub invariant-loop-size : goal.invariant-loop-size
invariant-loop-size l =
    record {
      within : l.size ≤ length l.tokens;
      labels : counted l.size (labels_from l.line (drop l.size l.tokens)) ≡ labels_from l.line l.tokens;
    }

abbrev pub decreases-loop-size : goal.decreases-loop-size
decreases-loop-size l = length l.tokens - l.size
