-- The loop over the segments, last first: the segments that were copied are placed.
use Rattle.std.proofs.Common.{◌≡◌, ◌+◌, ◌≤◌, ◌<◌, ℕ, length, drop}
use Rattle.std.specs.Prelude.{slice_index}
use Rattle.tomex_image.specs.Placing.{byte_of}
use Rattle.tomex_image.proofs.elf.placing.memory_of.Given as goal

abbrev pub decreases-loop-left : goal.decreases-loop-left
decreases-loop-left g l = l.left

abbrev pub invariant-loop-left : goal.invariant-loop-left
invariant-loop-left g l = record {
  within : l.left ≤ length l.segments;
  filled : length l.memory.items ≡ l.window.size;
  placed : (k : ℕ) → k < l.window.size → slice_index l.memory.items k ≡ byte_of l.bytes (drop l.left l.segments)
      (l.window.base + k);
}
