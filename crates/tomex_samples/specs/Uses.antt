-- Which step used each word of a window last, which the code keeps: a number for each word, from the window's base on.
use Rattle.tomex_rvexec.specs.Machine.{State, base_of}
use Rattle.std.specs.Prelude.{◌≡◌, ℕ, ◌+◌, ◌*◌, ◌<◌, Bool, if◌then◌else◌, List, length, slice_index}

-- the words of which the test is true at their address have this number now, and the others the one that they had
pub record AreNumbered (base : ℕ) (test : ℕ → Bool) (number : ℕ) (old new : List ℕ) : Type 0 where
  pub count : length new ≡ length old
  pub each : (k : ℕ) → k < length old
      → slice_index new k ≡ (if test (base + 4 * k) then number else slice_index old k)

-- a number for each word of the window
pub record AreWordsFor (s : State) (base : ℕ) (numbers : List ℕ) : Type 0 where
  pub from : base ≡ base_of s
  pub count : 4 * length numbers ≡ s.image.window.size
