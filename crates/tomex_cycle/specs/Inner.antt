-- The inner state of a machine: its position in a run, and what a cycle does to it.
use Rattle.std.specs.Prelude.{ℕ, ◌≡◌, ◌+◌, ◌<◌, ◌≤◌, None, nat_lt, if◌then◌else◌, replicate}
use Rattle.tomex_image.specs.Image.{Loaded}
use Rattle.tomex_rvexec.specs.declared.end.End.{End}
use Rattle.tomex_rvexec.specs.Run.{IsEnd, most_steps}
use Rattle.tomex_config.specs.Configuration.{Configuration}
use Rattle.tomex_timing.specs.History.{greatest_end}
use Rattle.tomex_cycle.specs.declared.inner.Inner.{Inner}
use Rattle.tomex_cycle.specs.declared.progress.CycleOutcome.{CycleOutcome}
use Rattle.tomex_cycle.specs.declared.progress.CycleOutcome.TheVariants.{Active, Settled}
use Rattle.tomex_cycle.specs.declared.progress.Progress.TheVariants.{Running, Ended}
use Rattle.tomex_cycle.specs.CycleOutcome.{progress_of}
use Rattle.tomex_cycle.specs.Events.{events_in}
use Rattle.tomex_cycle.specs.Phases.{IsSnapshot}
use Rattle.tomex_cycle.specs.Settled.{AllSettled}
use Rattle.tomex_cycle.specs.Run.{IsNextCycle, RunEndsAfter, first_timed}
use Rattle.tomex_cycle.specs.Views.{Core, core, front}

-- an inner state without what is counted and noted
abbrev pub core_of : {A : Type 0} → Inner A → Core
core_of inner = core inner.issued (front inner.pools inner.registers inner.fetch) inner.memory

-- the inner state is the one after cycle t of a run whose last step has n others before it
abbrev pub IsAt : {A : Type 0} → Loaded → Configuration → (n t : ℕ) → Inner A → Type 0
IsAt i config n t inner = IsSnapshot i config n t (core_of inner)

-- the inner state is the one before the first cycle of an image, on any configuration
pub record IsFresh {A : Type 0} (i : Loaded) (inner : Inner A) : Type 0 where
  pub start : (config : Configuration) (n : ℕ) → IsAt i config n 0 inner
  pub none : inner.issued ≡ 0
  pub none_made : inner.cycles_made ≡ 0
  pub empty : inner.pools.slots ≡ replicate 96 None

-- If the inner state is that of a run that ends, after the cycle before this one, it becomes the one after this cycle.
-- The outcome is Ended just if no step of the run ends later; if it is Active, something happens in this cycle; if it
-- is Settled, the issued steps are settled in it, so nothing happens after it before the next finish.
abbrev pub MakesCycle : {A : Type 0}
    → Loaded → Configuration → (cycle : ℕ) → Inner A → CycleOutcome → Inner A → Type 0
MakesCycle i config cycle old outcome new =
    (n t : ℕ) → IsNextCycle i config n t cycle → IsAt i config n t old
    → IsAt i config n cycle new
    × (progress_of outcome ≡ (if nat_lt cycle (greatest_end (first_timed config i (n + 1))) then Running else Ended))
    × (outcome ≡ Active → 0 < events_in cycle (first_timed config i (n + 1)))
    × (outcome ≡ Settled → AllSettled cycle (first_timed config i new.issued))

-- after the last cycle of a run that ends, this is the end that the inner state gives
abbrev pub GivesEnd : {A : Type 0} → Inner A → End A → Type 0
GivesEnd inner end =
    (i : Loaded) (config : Configuration) (n t : ℕ) → RunEndsAfter i config n
    → IsAt i config n t inner → greatest_end (first_timed config i (n + 1)) ≤ t → IsEnd i most_steps end
