-- Which operations start in a cycle, and the effect on their stations and on memory.
use Rattle.std.specs.Prelude.{◌≡◌, ℕ, zero, suc, ◌+◌, ◌-◌, ◌<◌, ◌≤◌, nat_lt, Bool, true, false, ◌&&◌, ◌||◌}
use Rattle.std.specs.Prelude.{if◌then◌else◌, List, [], ◌∷◌, ◌++◌, Option, Some, None, slice_index, IsSome, length}
use Rattle.std.specs.Prelude.{option_map}
use Rattle.tomex_rvdec.specs.Operands.{unit_of}
use Rattle.tomex_rvdec.specs.Places.{place_of_unit}
use Rattle.tomex_rvdec.specs.declared.pool.UnitId.{UnitId}
use Rattle.tomex_rvexec.specs.declared.outcome.Fault.{Fault}
use Rattle.tomex_rvexec.specs.declared.outcome.FaultKind.TheVariants.{Access}
use Rattle.tomex_rvexec.specs.Access.{IsInside}
use Rattle.tomex_rvexec.specs.Results.{byte_in, overwrites, result_of, stored_byte}
use Rattle.tomex_rvexec.specs.Memory.{Bytes}
use Rattle.tomex_rvexec.specs.Steps.{is_number}
use Rattle.tomex_config.specs.Configuration.{Configuration, option_of}
use Rattle.tomex_bus.specs.Sets.{has}
use Rattle.tomex_bus.specs.Picks.{IsInIssueOrder, IsPicked}
use Rattle.tomex_tags.specs.Contents.{is_waiting, slot, step_in}
use Rattle.tomex_tags.specs.Pools.{Pools}
use Rattle.tomex_tags.specs.WaitSets.{waits, waits_for}
use Rattle.tomex_tags.specs.declared.station.Station.{Station}
use Rattle.tomex_membuf.specs.Order.{lets_pass}

-- no operation waits only for a unit and older accesses
abbrev pub NoneWaits : List (Option Station) → Type 0
NoneWaits slots = (x : ℕ) → x < 96 → waits (slot slots x) ≡ false

abbrev pub kind_of : Option UnitId → Option ℕ
kind_of None = None
kind_of (Some unit) = Some (place_of_unit unit)

abbrev pub kind_if : Bool → Option ℕ → Option ℕ
kind_if true kind = kind
kind_if false kind = None

-- the operations in these places let a station pass
abbrev pub is_clear : List (Option Station) → List ℕ → Station → ℕ → Bool
is_clear slots [] s cycle = true
is_clear slots (x ∷ xs) s cycle = lets_pass (slot slots x) s cycle && is_clear slots xs s cycle

-- the kind of unit that the operation in a place needs, after these older ones, if it can start
abbrev pub unit_needed : List (Option Station) → List ℕ → ℕ → Option Station → Option ℕ
unit_needed slots older cycle None = None
unit_needed slots older cycle (Some s) =
    kind_if (is_waiting s && is_clear slots older s cycle) (kind_of (unit_of s.instr.op))

-- true if the operation in a place needs a unit of the kind, given the busy places in issue order
abbrev pub IsWanted : Pools → ℕ → UnitId → ℕ → Bool → Type 0
IsWanted st cycle unit x is =
    (older younger : List ℕ) → IsInIssueOrder st.busy st.issue_numbers (older ++ (x ∷ younger))
    → is ≡ is_number (unit_needed st.slots older cycle (slot st.slots x)) (place_of_unit unit)

-- the set of the busy places whose operations can start if a unit of this kind is free
pub record AreStartableFor (st : Pools) (cycle : ℕ) (unit : UnitId) (set : ℕ) : Type 0 where
  pub inside : (x : ℕ) → x < 128 → has set x ≡ true → has st.busy x ≡ true
  pub wants : (x : ℕ) → x < 128 → IsWanted st cycle unit x (has set x)

-- the operations in these places wait only for a unit of the kind and older accesses
abbrev pub AllWaitFor : UnitId → List (Option Station) → ℕ → Type 0
AllWaitFor unit slots set = (x : ℕ) → x < 128 → has set x ≡ true → waits_for unit (slot slots x) ≡ true

-- the same for each kind
abbrev pub AreStartable : Pools → ℕ → List ℕ → Type 0
AreStartable st cycle sets = (unit : UnitId) → AreStartableFor st cycle unit (slice_index sets (place_of_unit unit))

abbrev pub is_among : List ℕ → ℕ → Bool
is_among [] x = false
is_among (set ∷ sets) x = has set x || is_among sets x

-- of each kind the oldest that can start do, at most as many as there are units
pub record IsStarting (config : Configuration) (st : Pools) (cycle starting : ℕ) : Type 0 where
  pub startable : List ℕ
  pub kinds : List ℕ
  pub are_startable : AreStartable st cycle startable
  pub units : (unit : UnitId)
      → IsPicked (slice_index startable (place_of_unit unit)) st.issue_numbers (option_of config unit).units
      (slice_index kinds (place_of_unit unit))
  pub count : length kinds ≡ 5
  pub all : (x : ℕ) → x < 128 → has starting x ≡ is_among kinds x

abbrev pub finish_from : Configuration → ℕ → Option UnitId → Option ℕ
finish_from config cycle None = None
finish_from config cycle (Some unit) = Some (cycle + (option_of config unit).latency - 1)

-- a station whose operation starts in the cycle, over a memory
abbrev pub station_after_start : Configuration → ℕ → Bytes → Station → Station
station_after_start config cycle m s =
    record s { finish = finish_from config cycle (unit_of s.instr.op); value = result_of (step_in s) (byte_in m) }

-- the fault of a station whose access is outside memory
abbrev pub access_fault : Station → Fault
access_fault s = record { kind = Access; pc = s.pc }

-- all members are places of stations
abbrev pub AreLow : ℕ → Type 0
AreLow picked = (x : ℕ) → x < 128 → has picked x ≡ true → x < 96

-- the operation of a station can start: it uses a unit, hasn't started, and its access, if any, is inside memory
pub record CanBegin (m : Bytes) (s : Station) : Type 0 where
  pub inside : IsInside m (step_in s)
  pub not_started : s.finish ≡ None
  pub unit : IsSome (unit_of s.instr.op)

-- the access fault of the station in a place, whose operation can't start
abbrev pub IsAccessFault : Pools → Bytes → ℕ → Fault → Type 0
IsAccessFault st m x fault =
    (s : Station) × (slot st.slots x ≡ Some s) × (CanBegin m s → ⊥) × (fault ≡ access_fault s)

-- each picked place has a station whose operation can start
abbrev pub AllCanBegin : Bytes → ℕ → List (Option Station) → Type 0
AllCanBegin m picked slots =
    (x : ℕ) → x < 96 → has picked x ≡ true → (s : Station) × (slot slots x ≡ Some s) × CanBegin m s

abbrev pub station_after_start_if : Configuration → ℕ → Bytes → Bool → Option Station → Option Station
station_after_start_if config cycle m picked o = if picked then option_map (station_after_start config cycle m) o else o

-- the operations of the picked places below k have started
pub record HaveBegun (config : Configuration) (cycle : ℕ) (m : Bytes) (picked k : ℕ) (old new : Pools) : Type 0 where
  pub places : length new.slots ≡ 96
  pub slots : (x : ℕ) → x < 96
      → slot new.slots x ≡ station_after_start_if config cycle m (nat_lt x k && has picked x) (slot old.slots x)
  pub issue_numbers : new.issue_numbers ≡ old.issue_numbers

-- if each picked place has a station whose operation can start, all of them have started
abbrev pub StartsAll : Configuration → ℕ → Bytes → ℕ → Pools → Pools → Type 0
StartsAll config cycle m picked old new =
    length old.slots ≡ 96 → AreLow picked → AllCanBegin m picked old.slots
    → HaveBegun config cycle m picked 96 old new

-- and there is no fault
abbrev pub StartsWithoutFault : Bytes → ℕ → Pools → Option Fault → Type 0
StartsWithoutFault m picked st fault =
    length st.slots ≡ 96 → AreLow picked → AllCanBegin m picked st.slots → fault ≡ None

-- the byte at an address after the store of a place, if it is picked
abbrev pub stored_at : Bool → Option Station → ℕ → ℕ → ℕ
stored_at picked None a before = before
stored_at picked (Some s) a before =
    if picked && overwrites (step_in s) a then stored_byte (step_in s) a else before

-- the byte at an address after the stores of the picked places below k
abbrev pub written_by : List (Option Station) → ℕ → (ℕ → ℕ) → ℕ → ℕ → ℕ
written_by slots picked byte zero a = byte a
written_by slots picked byte (suc k) a = stored_at (has picked k) (slot slots k) a (written_by slots picked byte k a)

-- the stores of the picked places below k are performed
pub record HaveStored (slots : List (Option Station)) (picked : ℕ) (k : ℕ) (old new : Bytes) : Type 0 where
  pub base : new.base ≡ old.base
  pub size : length new.bytes ≡ length old.bytes
  pub bytes : (a : ℕ) → old.base ≤ a → byte_in new a ≡ written_by slots picked (byte_in old) k a

-- the accesses of the picked places are inside memory
abbrev pub AllInside : Bytes → ℕ → List (Option Station) → Type 0
AllInside m picked slots =
    (x : ℕ) → x < 96 → has picked x ≡ true → (s : Station) → slot slots x ≡ Some s → IsInside m (step_in s)

-- if the picked places are those of stations, with accesses inside memory, their stores are performed
abbrev pub PerformsStores : Pools → ℕ → Bytes → Bytes → Type 0
PerformsStores st picked old new =
    AreLow picked → AllInside old picked st.slots → HaveStored st.slots picked 96 old new
