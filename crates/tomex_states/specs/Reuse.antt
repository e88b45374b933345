-- When a state can be kept and used again: when another one looks like it, and what it is at a later place of the run.
use Rattle.std.specs.Prelude.{ℕ, ◌+◌, ◌-◌, ◌<◌, ◌≤◌, ◌≡◌, nat_le, Bool, List, [], ◌∷◌, ◌++◌, Option, Some}
use Rattle.std.specs.Prelude.{None, if◌then◌else◌, is_some, All, IfSome, map, max, reverse, slice_index, slice_set}
use Rattle.tomex_rvdec.specs.declared.pool.PoolId.{PoolId}
use Rattle.tomex_rvexec.specs.Steps.{step_dest}
use Rattle.tomex_rvexec.specs.declared.step.ByteRange.{ByteRange}
use Rattle.tomex_rvexec.specs.declared.step.Step.{Step}
use Rattle.tomex_config.specs.Configuration.{Configuration, stations_of}
use Rattle.tomex_reservations.specs.Reservations.{Reserved, end_at, taken_at}
use Rattle.tomex_timing.specs.declared.accesses.Access.{Access}
use Rattle.tomex_timing.specs.declared.recent.Facts.{Facts}
use Rattle.tomex_timing.specs.declared.recent.Latest.{Latest}
use Rattle.tomex_timing.specs.declared.times.Done.{Done}
use Rattle.tomex_timing.specs.Issue.{first_issue}
use Rattle.tomex_timing.specs.Recent.{AreFacts, issue_from}
use Rattle.tomex_timing.specs.Recurrence.{AreTimed}
use Rattle.tomex_timing.specs.Search.{history}
use Rattle.tomex_timing.specs.Waiting.{past_branches}
use Rattle.tomex_alike.specs.Alike.{LooksLike}
use Rattle.tomex_states.specs.States.{ShowsState, count_with_next}
use Rattle.tomex_states.specs.declared.state.State.{State}
use Rattle.tomex_states.specs.declared.state.Window.{Window}

-- the timed history of some steps, whose destinations are registers of the machine
pub record IsHistory (config : Configuration) (h : List Done) : Type 0 where
  pub timed : AreTimed config h
  pub registers : All (λ d. IfSome (step_dest d.step) (λ r. r < 32)) h

-- The first cycles that matter to a next step.

-- the first in which it may issue
abbrev pub first_of : {A : Type 0} → Configuration → State A → ℕ
first_of config state = issue_from config state.recent.latest

-- the first in which it may start, if it is an access
abbrev pub access_from : {A : Type 0} → Configuration → State A → ℕ
access_from config state = max (first_of config state) state.recent.latest.address + 2

-- a cycle relative to a first one: 0 if it is over by then
abbrev pub ahead_of : ℕ → ℕ → ℕ
ahead_of first t = t + 1 - first

-- A state can be kept if no access is under way but the last four, and the greatest end isn't far.
pub record CanBeKept {A : Type 0} (config : Configuration) (state : State A) : Type 0 where
  pub older : state.window.older < access_from config state
  pub near : state.recent.latest.end ≤ first_of config state + 256

-- Two states look alike.

-- latest cycles do, from the first cycles on in which a next step may issue
pub record AreLatestAlike (n m : ℕ) (a b : Latest) : Type 0 where
  pub end : ahead_of n a.end ≡ ahead_of m b.end
  pub issued : count_with_next a n ≡ count_with_next b m
  pub width : n - past_branches a ≡ m - past_branches b
  pub address : a.address - n ≡ b.address - m

-- as many numbers of a list, which are cycles, do
abbrev pub AreAlikeTo : ℕ → (n m : ℕ) → (a b : List ℕ) → Type 0
AreAlikeTo count n m a b = (i : ℕ) → i < count → ahead_of n (slice_index a i) ≡ ahead_of m (slice_index b i)

-- a pool's stations are free in the same cycles
abbrev pub IsPoolAlike : ℕ → PoolId → (n m : ℕ) → (a b : List ℕ) → Type 0
IsPoolAlike count pool n m a b =
    (k : ℕ) → k < count → ahead_of n (end_at a pool k) ≡ ahead_of m (end_at b pool k)

abbrev pub AreStationsAlike : Configuration → (n m : ℕ) → (a b : List ℕ) → Type 0
AreStationsAlike config n m a b = (pool : PoolId) → IsPoolAlike (stations_of config pool) pool n m a b

-- in as many cycles as much of each line is taken
abbrev pub AreTablesAlike : ℕ → (n m : ℕ) → (a b : Reserved) → Type 0
AreTablesAlike ahead n m a b = (l t : ℕ) → 0 < t → t ≤ ahead → taken_at a l (n + t) ≡ taken_at b l (m + t)

pub record AreAlike {A : Type 0} (config : Configuration) (a b : State A) : Type 0 where
  pub latest : AreLatestAlike (first_of config a) (first_of config b) a.recent.latest b.recent.latest
  pub ends : AreAlikeTo 32 (first_of config a) (first_of config b) a.recent.latest.ends b.recent.latest.ends
  pub stations : AreStationsAlike config (first_of config a) (first_of config b) a.recent.stations.ends
      b.recent.stations.ends
  pub table : AreTablesAlike (ahead_of (first_of config a) a.recent.latest.end) (first_of config a) (first_of config b)
      a.recent.table b.recent.table
  pub finishes : AreAlikeTo 4 (access_from config a) (access_from config b) a.window.finishes b.window.finishes

-- so histories that they show do, if the states can be kept
abbrev pub LookAlike : {A : Type 0} → Configuration → (a b : State A) → Type 0
LookAlike config a b =
    (g h : List Done) → IsHistory config g → IsHistory config h → ShowsState config g a → ShowsState config h b
    → LooksLike config 4 g h

-- A copy of a state has all of it but the table's cycles before the last issue.
pub record IsCopy {A : Type 0} (a b : State A) : Type 0 where
  pub latest : b.recent.latest ≡ a.recent.latest
  pub base : b.recent.table.base ≡ a.recent.latest.issue
  pub table : (l t : ℕ) → a.recent.latest.issue ≤ t → taken_at b.recent.table l t ≡ taken_at a.recent.table l t
  pub ends : b.recent.stations.ends ≡ a.recent.stations.ends
  pub accesses : b.recent.accesses.items ≡ a.recent.accesses.items
  pub window : b.window ≡ a.window

-- it shows what the other shows
abbrev pub ShowsTheSame : {A : Type 0} → (a b : State A) → Type 0
ShowsTheSame a b = (config : Configuration) (h : List Done) → ShowsState config h a → ShowsState config h b

-- A state is moved to a later place of the run.

-- latest cycles; x0 is never written
abbrev pub latest_later : ℕ → Latest → Latest
latest_later by latest = record {
  ends = slice_set (map (λ end. end + by) latest.ends) 0 0;
  issue = latest.issue + by;
  issued = latest.issued;
  branch = latest.branch + by;
  address = latest.address + by;
  end = latest.end + by;
}

abbrev pub window_later : ℕ → Window → Window
window_later by window = record {
  finishes = map (λ finish. finish + by) window.finishes;
  older = window.older + by;
}

-- an access, if it finishes in a cycle from the given one on
abbrev pub access_under_way : ℕ → ℕ → Bool → Option ByteRange → List Access
access_under_way from finish is_store None = []
access_under_way from finish is_store (Some bytes) =
    if nat_le from finish
    then record { bytes = bytes; is_store = is_store; finish = finish } ∷ []
    else []

-- those of the steps with these facts, the youngest first, that do; the finishes are those of the last accesses
abbrev pub accesses_under_way : ℕ → List ℕ → List Facts → List Access
accesses_under_way from finishes [] = []
accesses_under_way from [] (f ∷ older) = []
accesses_under_way from (finish ∷ finishes) (f ∷ older) =
    if is_some f.bytes
    then access_under_way from finish f.is_store f.bytes ++ accesses_under_way from finishes older
    else accesses_under_way from (finish ∷ finishes) older

-- The facts are those of the steps before the later place, in program order.
pub record IsMoved {A : Type 0} (config : Configuration) (by : ℕ) (facts : List Facts) (a b : State A) : Type 0 where
  pub latest : b.recent.latest ≡ latest_later by a.recent.latest
  pub base : b.recent.table.base ≡ a.recent.table.base + by
  pub table : (l t : ℕ) → taken_at b.recent.table l (t + by) ≡ taken_at a.recent.table l t
  pub ends : b.recent.stations.ends ≡ map (λ end. end + by) a.recent.stations.ends
  pub window : b.window ≡ window_later by a.window
  pub accesses : b.recent.accesses.items
      ≡ accesses_under_way (access_from config a + by) b.window.finishes (reverse facts)

-- it shows the history of that place, if that looks like one that the state before shows
abbrev pub ShowsLater : {A : Type 0} → Configuration → ℕ → List Facts → (a b : State A) → Type 0
ShowsLater config by facts a b =
    (g : List Done) (steps : List Step) → AreFacts steps facts → ShowsState config g a
    → LooksLike config 4 g (history config steps)
    → first_issue config (history config steps) ≡ first_issue config g + by → ShowsState config (history config steps) b

-- some history is shown
abbrev pub ShowsSome : {A : Type 0} → Configuration → State A → Type 0
ShowsSome config state = (g : List Done) × IsHistory config g × ShowsState config g state
