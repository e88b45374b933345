-- The marks of a window's words, which the code keeps: one for each word, from the window's base on.
use Rattle.std.specs.Prelude.{◌≡◌, ◌⊎◌, ℕ, ◌+◌, ◌-◌, ◌*◌, ◌%◌, ◌<◌, ◌≤◌, ◌||◌, Bool, false, not, List, length}
use Rattle.std.specs.Prelude.{slice_index_or}
use Rattle.std.specs.Prelude.{Option, Some, None}
use Rattle.tomex_cut.specs.Part.{Part, is_used, word_bytes}
use Rattle.tomex_cut.specs.Room.{is_free}
use Rattle.tomex_rvexec.specs.declared.step.Step.{Step}
use Rattle.tomex_rvexec.specs.Machine.{State, base_of}
use Rattle.tomex_rvexec.specs.Results.{is_among}

-- the mark of word k; a word outside the window has none
abbrev pub mark_of : List Bool → ℕ → Bool
mark_of marks k = slice_index_or marks k false

-- the words that these steps use are marked
pub record HaveMarks (base : ℕ) (marks : List Bool) (steps : List Step) : Type 0 where
  pub each : (k : ℕ) → k < length marks → mark_of marks k ≡ is_used steps (base + 4 * k)

-- more words are marked: those of which the test is true at their address
pub record AreMarked (base : ℕ) (test : ℕ → Bool) (old new : List Bool) : Type 0 where
  pub count : length new ≡ length old
  pub each : (k : ℕ) → k < length old → mark_of new k ≡ (mark_of old k || test (base + 4 * k))

-- the end's word is marked too, if there is one
abbrev pub AreMarkedFor : Option ℕ → ℕ → List Bool → List Bool → Type 0
AreMarkedFor None base old new = new ≡ old
AreMarkedFor (Some e) base old new = AreMarked base (λ a. is_among (word_bytes a) e) old new

-- a mark for each word of the window
pub record AreWordsOf (s : State) (base : ℕ) (marks : List Bool) : Type 0 where
  pub from : base ≡ base_of s
  pub count : 4 * length marks ≡ s.image.window.size

-- word k has the byte at an address
abbrev pub HasByte : ℕ → ℕ → ℕ → Type 0
HasByte base k a = (base + 4 * k ≤ a) × (a < base + 4 * k + 4)

-- n words from word k on are in the window, and have no mark
pub record AreUnmarked (marks : List Bool) (n k : ℕ) : Type 0 where
  pub inside : k + n ≤ length marks
  pub each : (j : ℕ) → j < n → mark_of marks (k + j) ≡ false

-- the marks show which words are free
pub record ShowFree (p : Part) (base : ℕ) (marks : List Bool) : Type 0 where
  pub words : AreWordsOf p.start base marks
  pub aligned : base % 4 ≡ 0
  pub each : (k : ℕ) → k < length marks → mark_of marks k ≡ not (is_free p (base + 4 * k))

-- three words from word k on, of which the third reaches the pc by a branch
pub record ReachesAt (base : ℕ) (marks : List Bool) (pc k : ℕ) : Type 0 where
  pub free : AreUnmarked marks 3 k
  pub back : base + 4 * k + 8 ≤ pc + 4096
  pub forth : pc ≤ base + 4 * k + 8 + 4094

-- how far the third is from the pc
abbrev pub gap : ℕ → ℕ → ℕ → ℕ
gap base pc k = (pc - (base + 4 * k + 8)) + (base + 4 * k + 8 - pc)

-- of all such words below word n, the nearest; of two as near the lower
pub record IsNearestBelow (base : ℕ) (marks : List Bool) (pc n k : ℕ) : Type 0 where
  pub can : ReachesAt base marks pc k
  pub nearest : (j : ℕ) → j < n → ReachesAt base marks pc j → gap base pc k ≤ gap base pc j
  pub lower : (j : ℕ) → j < n → ReachesAt base marks pc j → gap base pc j ≡ gap base pc k → k ≤ j

-- 61 words from word k on beside the hook
pub record StandsAt (base : ℕ) (marks : List Bool) (hook k : ℕ) : Type 0 where
  pub free : AreUnmarked marks 61 k
  pub beside : (base + 4 * k + 244 ≤ hook) ⊎ (hook + 12 ≤ base + 4 * k)
