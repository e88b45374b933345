-- The code's own words: from each place a jump to a loop around, by which a search for a loop is short.
use Rattle.std.specs.Prelude.{ℕ, ◌≡◌, ◌<◌, ◌≤◌, nat_le, if◌then◌else◌, List, Option, Some, false, length, slice_index}
use Rattle.std.specs.Prelude.{slice_index_or}
use Rattle.tomex_loops.specs.declared.forest.Forest.{Forest}
use Rattle.tomex_loops.specs.Loops.{heads_below, is_in_loop}
use Rattle.tomex_loops.specs.Ways.{AreLower, loop_in}

-- A jump goes to a head of a loop around, and over no loop whose head is no later than that.
pub record AreJumps (loops : List (Option ℕ)) (jumps : List ℕ) : Type 0 where
  pub low : (x : ℕ) → x < length jumps → slice_index jumps x ≤ x
  pub less : (x h : ℕ) → x < length jumps → loop_in loops x ≡ Some h → slice_index jumps x < x
  pub far : (x v : ℕ) → x < length jumps → v ≤ slice_index jumps x
      → is_in_loop (loop_in loops) v x ≡ is_in_loop (loop_in loops) v (slice_index jumps x)

-- by the jump if that isn't beyond the head
abbrev pub next_to : ℕ → ℕ → ℕ → ℕ
next_to jump around head = if nat_le head jump then jump else around

-- loops with jumps, and with the numbers of heads
pub record IsForest {A : Type 0} (forest : Forest A) : Type 0 where
  pub lower : AreLower forest.loops.items
  pub jumps : AreJumps forest.loops.items forest.jumps.items
  pub many_heads : length forest.heads.items ≡ length forest.loops.items
  pub many_jumps : length forest.jumps.items ≡ length forest.loops.items
  pub many_numbers : length forest.numbers.items ≡ length forest.loops.items
  pub numbers : (x : ℕ) → x < length forest.heads.items → slice_index forest.numbers.items x
      ≡ heads_below (λ y. slice_index_or forest.heads.items y false) x
