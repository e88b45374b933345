-- What the code's tally of a run's stretches says.
use Rattle.std.specs.Prelude.{◌≡◌, ℕ, ◌*◌, ◌/◌, length, Ok}
use Rattle.tomex_image.specs.Image.{Loaded}
use Rattle.tomex_samples.specs.declared.tally.Tally.{Tally}
use Rattle.tomex_samples.specs.declared.stretches.Stretches.{Stretches}
use Rattle.tomex_samples.specs.Stretches.{Run, most_stretches, run_length, run_of}
use Rattle.tomex_samples.specs.Tally.{AreFound, AreTallied, IsShown, lists}
use Rattle.tomex_rvexec.specs.Run.{start_of}

-- the stretches after n steps
abbrev pub AreTalliedIn : {A : Type 0} → Loaded → ℕ → ℕ → Tally A → Type 0
AreTalliedIn i steps n t =
    AreTallied i steps n t.current t.counts.numbers.items t.counts.words.items (lists t.rows.items)
    (length t.ends.parts.items)

-- the parts that end within m steps
abbrev pub AreFoundIn : {A : Type 0} → Loaded → ℕ → ℕ → Tally A → Type 0
AreFoundIn i steps m t = AreFound i steps m t.ends.parts.items t.ends.waiting.items

-- the code's stretches are those of a run
abbrev pub AreOf : {A : Type 0} → Run → Stretches A → Type 0
AreOf run r = IsShown r.steps r.words (lists r.rows.items) r.parts.items run

-- a run that ends, by its stretches
pub record IsPass {A : Type 0} (i : Loaded) (steps : ℕ) (r : Stretches A) : Type 0 where
  pub count : ℕ
  pub ends : run_length (most_stretches * steps) (start_of i) ≡ Ok count
  pub steps_are : r.steps ≡ steps
  pub words_are : r.words ≡ i.window.size / 4
  pub shown : AreOf (run_of i steps (count / steps)) r
