-- The words so far have been read.
use Rattle.std.proofs.Common.{◌≡◌, ◌<◌, ◌*◌, ℕ, List}
use Rattle.std.specs.Prelude.{slice_index}
use Rattle.tomex_timing.specs.declared.times.Done.{Done}
use Rattle.tomex_floor.specs.Kept.{AreTouched, conflict_below}
use Rattle.tomex_floor.proofs.accesses.Accesses.latest.Given as goal

abbrev pub invariant-loop-word : goal.invariant-loop-word
invariant-loop-word g l = (h : ℕ → List Done) (n : ℕ) → n < 4 → AreTouched h l.self.by_word
    → slice_index l.latest n ≡ conflict_below l.fn.bytes (4 * l.word-counter) l.is_store (h n)
