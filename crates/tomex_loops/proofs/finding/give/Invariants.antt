-- The loops after the part of the round so far.
use Rattle.std.proofs.Common.{◌≡◌, ◌<◌, ℕ, List, None, drop, get_or, length, take}
use Rattle.tomex_loops.specs.Loops.{loop_after, stand}
use Rattle.tomex_loops.specs.Ways.{AreLower, loop_in}
use Rattle.tomex_loops.proofs.finding.give.Given as goal

abbrev pub invariant-loop-place : goal.invariant-loop-place
invariant-loop-place g l = record {
  many : length l.loops.items ≡ length l.fn.loops.items;
  lower : AreLower l.loops.items;
  loops : (places : List ℕ) (x : ℕ) → ((p : ℕ) → p < length l.at → get_or l.at p None ≡ stand places p)
      → x < length l.fn.loops.items → loop_in l.loops.items x
      ≡ loop_after (drop l.base places) (take l.place-index l.round) l.head (loop_in l.fn.loops.items) x;
}
