-- The remaining spaces.
use Rattle.std.proofs.Common.{◌≡◌, ◌++◌, codes}
use Rattle.std.specs.Prelude.{string_bytes}
use Rattle.std.specs.List.{repeat}
use Rattle.tomex_layout.proofs.aligned.push_spaces.Given as goal

abbrev pub invariant-loop-left : goal.invariant-loop-left
invariant-loop-left g l =
    string_bytes l.text ++ repeat l.left (codes " ") ≡ string_bytes l.fn.text ++ repeat l.fn.count (codes " ")

abbrev pub decreases-loop-left : goal.decreases-loop-left
decreases-loop-left g l = l.left
