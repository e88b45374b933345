-- What is known of the run of an image on a configuration: of all its steps, and of those that have issued by a cycle.
use Rattle.std.specs.Prelude.{◌≡◌, ℕ, ◌+◌, ◌<◌, ◌≤◌, nat_le, ◌&&◌, if◌then◌else◌, List, [], ◌∷◌, None, ⊤}
use Rattle.tomex_image.specs.Image.{Loaded, IsLoaded}
use Rattle.tomex_rvexec.specs.declared.outcome.EndKind.{EndKind}
use Rattle.tomex_rvexec.specs.declared.step.Step.{Step}
use Rattle.tomex_rvexec.specs.Flow.{IsAllowed, end_of}
use Rattle.tomex_rvexec.specs.Results.{byte_in, overwrites, stored_byte}
use Rattle.tomex_rvexec.specs.History.{Follows, history as first_steps}
use Rattle.tomex_rvexec.specs.Machine.{State}
use Rattle.tomex_rvexec.specs.Run.{EndsWithin, RunEnds, most_steps}
use Rattle.tomex_config.specs.Configuration.{Configuration, IsWithinLimits}
use Rattle.tomex_timing.specs.declared.times.Done.{Done}
use Rattle.tomex_timing.specs.Recurrence.{AreTimed}
use Rattle.tomex_timing.specs.Search.{timed_of}

-- what contracts say about a machine holds for these programs
abbrev pub EndsWithinLimit : Loaded → Type 0
EndsWithinLimit i = EndsWithin i most_steps

-- the run of an image on a configuration is ended by the step that has n others before it
pub record RunEndsAfter (i : Loaded) (config : Configuration) (n : ℕ) : Type 0 where
  pub lawful : IsWithinLimits config
  pub loaded : IsLoaded i.window i.memory i.entry
  pub few : n < most_steps
  pub state : State
  pub kind : EndKind
  pub ends : RunEnds i n state kind

-- the cycle u comes after t, in a run that the step with n others before it ends
pub record IsNextCycle (i : Loaded) (config : Configuration) (n t u : ℕ) : Type 0 where
  pub run : RunEndsAfter i config n
  pub next : u ≡ t + 1

-- the first k steps of a run, with their times; if the step after n others ends the run, the whole of it is the first
-- n + 1
unfoldable pub first_timed : Configuration → Loaded → ℕ → List Done
first_timed config i k = timed_of config (first_steps i k)

abbrev pub steps_in : List Done → List Step
steps_in [] = []
steps_in (d ∷ older) = d.step ∷ steps_in older

-- each step follows those older than it, and what doesn't end the program is allowed
abbrev pub ArePast : Loaded → List Done → Type 0
ArePast i [] = ⊤
ArePast i (d ∷ older) =
    Follows i (steps_in older) d.step × (end_of d.step ≡ None → IsAllowed i d.step) × ArePast i older

-- each was issued by the cycle
abbrev pub AreIssuedBy : ℕ → List Done → Type 0
AreIssuedBy t [] = ⊤
AreIssuedBy t (d ∷ older) = (d.at.issue ≤ t) × AreIssuedBy t older

-- what is known of the steps that have issued by a cycle
pub record IsUpTo (i : Loaded) (config : Configuration) (t : ℕ) (h : List Done) : Type 0 where
  pub lawful : IsWithinLimits config
  pub timed : AreTimed config h
  pub past : ArePast i h
  pub issued : AreIssuedBy t h

-- the byte of memory at an address after the starts of cycle t: the youngest store on it that has started left it
abbrev pub byte_at : Loaded → ℕ → List Done → ℕ → ℕ
byte_at i t [] a = byte_in (record { base = i.window.base; bytes = i.memory }) a
byte_at i t (d ∷ older) a =
    if overwrites d.step a && nat_le d.at.start t then stored_byte d.step a else byte_at i t older a
