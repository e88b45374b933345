-- What the code keeps while it walks along a part.
use Rattle.std.specs.Prelude.{◌≡◌, ℕ, ◌-◌, ◌%◌, ◌<◌, ◌==◌, Bool, false, not, List, length, MatchBool}
use Rattle.std.specs.Prelude.{Option, Some, IfSome, IsTrue, Ok}
use Rattle.tomex_cut.specs.Marks.{AreMarked, AreWordsOf, HaveMarks, mark_of}
use Rattle.tomex_cut.specs.Part.{Part, is_overwritten, part_at, uses}
use Rattle.tomex_image.specs.Image.{Loaded}
use Rattle.tomex_rvexec.specs.declared.outcome.EndKind.{EndKind}
use Rattle.tomex_rvexec.specs.declared.step.Step.{Step}
use Rattle.tomex_rvexec.specs.Fetch.{word_at}
use Rattle.tomex_rvexec.specs.Machine.{State, Ends, Goes, base_of, coming_of, holds, step_of}
use Rattle.tomex_rvexec.specs.Memory.{word_read}

-- a mark for each word of the window, none of them set
pub record AreReady (s : State) (base : ℕ) (marks : List Bool) : Type 0 where
  pub words : AreWordsOf s base marks
  pub none : (k : ℕ) → k < length marks → mark_of marks k ≡ false

-- a step is taken from s to t, or ends the run: the words that it uses are marked, and it is known whether its code was
-- changed before the part, when this was the memory
pub record HasTaken (i : Loaded) (memory : List ℕ) (s : State) (last changed : Bool) (t : State) (base : ℕ)
    (old new : List Bool) : Type 0 where
  pub step : Step
  pub comes : coming_of s ≡ Some step
  pub goes : MatchBool last ((kind : EndKind) × (step_of s ≡ Ends kind)) (step_of s ≡ Goes t)
  pub change : changed ≡ not (word_read memory (step.pc - i.window.base) == word_at i step.pc)
  pub marks : AreMarked base (λ a. uses a step) old new

-- the part that begins in a state, its end, whether its code was overwritten, and the words that its steps use
pub record IsFound (s : State) (least : ℕ) (end : Option ℕ) (overwritten : Bool) (marks : List Bool) : Type 0 where
  pub part : Part
  pub is_part : part_at (Ok s) least ≡ Ok part
  pub start : part.start ≡ s
  pub ends : end ≡ part.end
  pub changed : overwritten ≡ is_overwritten part
  pub end_word : IfSome part.end (λ e. (e % 4 ≡ 0) × IsTrue (holds s e 4))
  pub used : HaveMarks (base_of s) marks part.steps
