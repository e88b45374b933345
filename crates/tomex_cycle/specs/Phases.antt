-- The effect of each phase of a cycle, and the snapshot between two cycles.
use Rattle.std.specs.Prelude.{◌≡◌, ℕ, ◌+◌, ◌≤◌, ◌<◌, false, List, Option, Some}
use Rattle.std.specs.Prelude.{None, Result, Ok, Bool, true, ◌&&◌, ◌==◌, nat_lt}
use Rattle.tomex_image.specs.Image.{Loaded}
use Rattle.tomex_rvexec.specs.declared.outcome.Fault.{Fault}
use Rattle.tomex_rvexec.specs.declared.step.Step.{Step}
use Rattle.tomex_rvexec.specs.History.{step_after}
use Rattle.tomex_rvexec.specs.Memory.{Bytes}
use Rattle.tomex_config.specs.Configuration.{Configuration}
use Rattle.tomex_timing.specs.declared.times.Done.{Done}
use Rattle.tomex_timing.specs.Recurrence.{can_issue}
use Rattle.tomex_cycle.specs.declared.fetch.Fetch.{Fetch}
use Rattle.tomex_cycle.specs.declared.fetch.Fetch.TheVariants.{At, Waits, Stopped}
use Rattle.tomex_cycle.specs.Events.{events_in}
use Rattle.tomex_cycle.specs.Run.{AreIssuedBy, IsNextCycle, IsUpTo, first_timed}
use Rattle.tomex_cycle.specs.Views.{Clocks, Core, Front, clocks, ShowsFront, ShowsMemory, ShowsStations}
use Rattle.tomex_tags.specs.Pools.{Pools}

-- the step after count others can't have issued by the cycle
abbrev pub IsYetToIssue : Loaded → Configuration → ℕ → ℕ → Type 0
IsYetToIssue i config count t =
    (x : Step) → step_after i count ≡ Some x
    → (s : ℕ) → s ≤ t → can_issue config (first_timed config i count) x s ≡ false

-- The state that issues change. Of the run, which ends after n others, count steps have issued, all by the cycle
-- last; the next one couldn't issue by the cycle yet.
pub record IsIssuedTo (i : Loaded) (config : Configuration) (n last yet : ℕ) (c : Clocks) (count : ℕ)
    (s : Front) : Type 0 where
  pub few : count ≤ n + 1
  pub shown : ShowsFront i c (first_timed config i count) s
  pub issued : AreIssuedBy last (first_timed config i count)
  pub next : count ≤ n → IsYetToIssue i config count yet

-- The snapshot after cycle t.
pub record IsSnapshot (i : Loaded) (config : Configuration) (n t : ℕ) (s : Core) : Type 0 where
  pub issue : IsIssuedTo i config n t t (clocks t t t) s.issued s.front
  pub bytes : ShowsMemory i t (first_timed config i s.issued) s.memory

-- The phases of a cycle, in their order. Each is stated for any history that the state before it shows.

-- starts: what starts in the cycle has its finish and its result, and memory what its stores leave
abbrev pub MakesStarts : Configuration → ℕ → Pools → Bytes → Option Fault → Pools → Bytes → Type 0
MakesStarts config cycle stations memory fault new written =
    (i : Loaded) (h : List Done) (t : ℕ) → cycle ≡ t + 1 → IsUpTo i config t h
    → ShowsStations i (clocks t t t) h stations → ShowsMemory i t h memory
    → (fault ≡ None) × ShowsStations i (clocks cycle t t) h new × ShowsMemory i cycle h written

-- the address of the load or store whose address cycle it is
abbrev pub MakesAddress : ℕ → Pools → Pools → Type 0
MakesAddress cycle stations new =
    (i : Loaded) (config : Configuration) (h : List Done) (t : ℕ) → cycle ≡ t + 1 → IsUpTo i config t h
    → ShowsStations i (clocks cycle t t) h stations → ShowsStations i (clocks cycle cycle t) h new

-- the issues of the run's next steps whose cycle it is, the count after them, and whether there are any
abbrev pub MakesIssue : Loaded → Configuration → ℕ → ℕ → Front → Result Bool Fault → ℕ → Front → Type 0
MakesIssue i config cycle count old result counted new =
    (n t : ℕ) → IsNextCycle i config n t cycle → IsIssuedTo i config n t t (clocks cycle cycle t) count old
    → (result ≡ Ok (nat_lt count counted)) × (count ≤ counted)
    × IsIssuedTo i config n cycle cycle (clocks cycle cycle t) counted new

-- the broadcasts and ends, and the targets of branches that finish
abbrev pub MakesEnds : Configuration → ℕ → Front → Front → Type 0
MakesEnds config cycle old new =
    (i : Loaded) (h : List Done) (t : ℕ) → cycle ≡ t + 1 → IsUpTo i config cycle h
    → ShowsFront i (clocks cycle cycle t) h old → ShowsFront i (clocks cycle cycle cycle) h new

-- If a phase reports that it did something, there is an event of the cycle.

abbrev pub StartsHappen : Configuration → ℕ → Pools → Type 0
StartsHappen config cycle stations =
    (i : Loaded) (h : List Done) (t : ℕ) → cycle ≡ t + 1 → IsUpTo i config t h
    → ShowsStations i (clocks t t t) h stations → 0 < events_in cycle h

abbrev pub AddressHappens : ℕ → Pools → Type 0
AddressHappens cycle stations =
    (i : Loaded) (config : Configuration) (h : List Done) (t : ℕ) → cycle ≡ t + 1 → IsUpTo i config t h
    → ShowsStations i (clocks cycle t t) h stations → 0 < events_in cycle h

abbrev pub EndsHappen : Configuration → ℕ → Pools → Type 0
EndsHappen config cycle stations =
    (i : Loaded) (h : List Done) (t : ℕ) → cycle ≡ t + 1 → IsUpTo i config cycle h
    → ShowsStations i (clocks cycle cycle t) h stations → 0 < events_in cycle h

abbrev pub is_stopped : Fetch → Bool
is_stopped (At pc) = false
is_stopped Waits = false
is_stopped (Stopped kind pc) = true

-- nothing is left to issue or to end
abbrev pub is_done : Fetch → ℕ → Bool
is_done fetch busy = is_stopped fetch && (busy == 0)
