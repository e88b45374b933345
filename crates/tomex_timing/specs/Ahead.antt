-- The evaluator's record of the earlier steps, in place of a list of them: the reservation table of later cycles, the
-- ends of the stations' steps, and the accesses under way; and the times that these give a next step.
use Rattle.std.specs.Prelude.{ℕ, ◌+◌, ◌-◌, ◌^◌, ◌<◌, ◌≤◌, ◌≡◌, ◌==◌, nat_lt, nat_le, Bool, not, ◌&&◌}
use Rattle.std.specs.Prelude.{◌||◌, if◌then◌else◌, List, [], ◌∷◌, ◌++◌, Option, Some, None, is_some, IfSome}
use Rattle.std.specs.Prelude.{replicate, slice_index, slice_set, MatchOption, All}
use Rattle.std.specs.Bool.{MatchBool}
use Rattle.std.specs.List.{list_all, filter}
use Rattle.tomex_rvdec.specs.Places.{place_of_unit}
use Rattle.tomex_rvdec.specs.declared.pool.PoolId.{PoolId}
use Rattle.tomex_rvdec.specs.declared.pool.UnitId.{UnitId}
use Rattle.tomex_rvexec.specs.Steps.{shares_byte}
use Rattle.tomex_rvexec.specs.declared.step.ByteRange.{ByteRange}
use Rattle.tomex_config.specs.Configuration.{Configuration, stations_of, option_of}
use Rattle.tomex_timing.specs.declared.accesses.Access.{Access}
use Rattle.tomex_timing.specs.declared.next.Next.{Next}
use Rattle.tomex_timing.specs.declared.times.Times.{Times}
use Rattle.tomex_timing.specs.declared.recent.Facts.{Facts}
use Rattle.tomex_timing.specs.declared.recent.Latest.{Latest}
use Rattle.tomex_timing.specs.declared.recent.Recent.{Recent}
use Rattle.tomex_timing.specs.History.{is_of}
use Rattle.tomex_timing.specs.Waiting.{operands_from}
use Rattle.tomex_timing.specs.Recent.{AreInRange, address_among, is_memory_pool, issue_from, latest_after}
use Rattle.tomex_timing.specs.Recent.{nothing_yet, ready_from}
use Rattle.tomex_reservations.specs.Reservations.{Reserved, IsFirst, IsFreeFirst, bus_line, end_at, is_left}
use Rattle.tomex_reservations.specs.Reservations.{station_place, taken_at}

-- all that is held of the earlier steps
pub record Held : Type 0 where
  pub latest : Latest
  pub table : Reserved
  pub ends : List ℕ
  pub accesses : List Access

abbrev pub held_by : {A : Type 0} → Recent A → Held
held_by w = record { latest = w.latest; table = w.table; ends = w.stations.ends; accesses = w.accesses.items }

-- before the first step
abbrev pub nothing_held : Held
nothing_held = record {
  latest = nothing_yet;
  table = record { base = 0; slots = [] };
  ends = replicate 96 0;
  accesses = [];
}

-- The accesses under way.

-- a step that touches these bytes conflicts with an access
abbrev pub access_conflicts : Access → Option ByteRange → Bool → Bool
access_conflicts a bytes is_store = shares_byte (Some a.bytes) bytes && (a.is_store || is_store)

-- if it does, the access has finished before the cycle
abbrev pub is_past : Facts → ℕ → Access → Bool
is_past f t a = not (access_conflicts a f.bytes f.is_store) || nat_lt a.finish t

-- this is the first cycle from a given one on that is past each conflict
abbrev pub ArePast : Facts → List Access → ℕ → ℕ → Type 0
ArePast f accesses from clear = (t : ℕ) → nat_le clear t ≡ (nat_le from t && list_all (is_past f t) accesses)

-- those under way after one more step
abbrev pub accesses_with : Option ByteRange → Facts → Times → List Access → List Access
accesses_with None f at accesses = accesses
accesses_with (Some bytes) f at accesses =
    filter (λ a. nat_le at.issue a.finish) accesses
    ++ (record { bytes = bytes; is_store = f.is_store; finish = at.finish } ∷ [])

abbrev pub accesses_after : Facts → Times → List Access → List Access
accesses_after f at accesses = accesses_with f.bytes f at accesses

-- the ends of the stations' steps after one more
abbrev pub ends_with : Option PoolId → Option ℕ → ℕ → List ℕ → List ℕ
ends_with (Some pool) (Some n) end ends = slice_set ends (station_place pool n) end
ends_with _ _ end ends = ends

abbrev pub ends_after : Facts → Times → List ℕ → List ℕ
ends_after f at ends = ends_with f.pool at.station at.end ends

-- 1 if a test passes, 0 if not
abbrev pub one : Bool → ℕ
one b = if b then 1 else 0

-- the table after one more step, from the cycle of its issue on: it takes a unit as it starts, and a bus as it ends;
-- of the cycles before the issue fewer than 1,024 are kept, however long the run
pub record IsTableAfter (f : Facts) (at : Times) (before after : Reserved) : Type 0 where
  pub base : after.base ≤ at.issue
  pub near : at.issue < after.base + 1024
  pub starts : (unit : UnitId) (t : ℕ) → at.issue ≤ t
      → taken_at after (place_of_unit unit) t
      ≡ taken_at before (place_of_unit unit) t + one (is_of unit f.unit && at.start == t)
  pub results : (t : ℕ) → at.issue ≤ t
      → taken_at after bus_line t ≡ taken_at before bus_line t + one (is_some f.unit && is_some f.dest && at.end == t)

-- all that is held after one more step
pub record IsHeldAfter (f : Facts) (at : Times) (before after : Held) : Type 0 where
  pub latest : after.latest ≡ latest_after f at before.latest
  pub table : IsTableAfter f at before.table after.table
  pub ends : after.ends ≡ ends_after f at before.ends
  pub accesses : after.accesses ≡ accesses_after f at before.accesses

-- The next step.

-- the end of the producer of a register's content; 0 without a register
abbrev pub end_in : List ℕ → Option ℕ → ℕ
end_in ends None = 0
end_in ends (Some r) = slice_index ends r

-- a step takes the station that is free first, if it takes one
abbrev pub TakesStation : Configuration → List ℕ → Option PoolId → ℕ → ℕ → Option ℕ → Type 0
TakesStation config ends pool from issue station =
    MatchOption pool
    ((issue ≡ from) × (station ≡ None))
    (λ p. (n : ℕ) × (station ≡ Some n) × IsFreeFirst ends p (stations_of config p) from issue n)

-- the amount taken of a line including one's own: one more than others take of it
abbrev pub with_own : Reserved → ℕ → ℕ → ℕ
with_own table line t = taken_at table line t + 1

-- a result ends in the first cycle after the finish with a bus free
abbrev pub TakesBus : Configuration → Reserved → Option ℕ → ℕ → ℕ → ℕ → Type 0
TakesBus config table dest finish end buses =
    MatchBool (is_some dest)
    (IsFirst (finish + 1) (is_left table bus_line config.buses) end × (buses ≡ with_own table bus_line end))
    ((end ≡ finish) × (buses ≡ 0))

-- a step that starts and ends as it issues
pub record IsIdle (next : Next) : Type 0 where
  pub start : next.at.start ≡ next.at.issue
  pub finish : next.at.finish ≡ next.at.issue
  pub end : next.at.end ≡ next.at.issue
  pub operands : next.marks.operands ≡ next.at.issue
  pub ready : next.marks.ready ≡ next.at.issue
  pub clear : next.marks.clear ≡ next.at.issue
  pub units : next.units ≡ 0
  pub buses : next.buses ≡ 0

-- a step that runs on a unit of this kind, given the ends of its operands' producers
pub record RunsOn
    (config : Configuration) (table : Reserved) (accesses : List Access) (f : Facts) (j k : ℕ) (next : Next)
    (unit : UnitId) : Type 0 where
  pub operands : next.marks.operands ≡ operands_from next.at.issue j k
  pub ready : next.marks.ready ≡ ready_from next.at.issue next.at.address j k
  pub clear : ArePast f accesses next.marks.ready next.marks.clear
  pub start : IsFirst next.marks.clear (is_left table (place_of_unit unit) (option_of config unit).units) next.at.start
  pub finish : next.at.finish ≡ next.at.start + (option_of config unit).latency - 1
  pub end : TakesBus config table f.dest next.at.finish next.at.end next.buses
  pub units : next.units ≡ with_own table (place_of_unit unit) next.at.start

-- the times of a next step, its marks and what it takes, given what is held
pub record IsNextBy (config : Configuration) (held : Held) (f : Facts) (next : Next) : Type 0 where
  pub from : next.marks.from ≡ issue_from config held.latest
  pub issue : TakesStation config held.ends f.pool next.marks.from next.at.issue next.at.station
  pub address : next.at.address ≡ address_among held.latest f.pool (end_in held.latest.ends f.j) next.at.issue
  pub run : MatchOption f.unit
      (IsIdle next)
      (RunsOn config held.table held.accesses f (end_in held.latest.ends f.j) (end_in held.latest.ends f.k) next)

-- a step can be noted in the table: it has each of its cycles, and no line is full in them
pub record CanReserve (f : Facts) (at : Times) (table : Reserved) : Type 0 where
  pub base : table.base ≤ at.issue
  pub start : at.issue ≤ at.start
  pub end : at.issue ≤ at.end
  pub units : IfSome f.unit (λ unit. taken_at table (place_of_unit unit) at.start < 255)
  pub buses : IfSome f.unit (λ unit. IfSome f.dest (λ r. taken_at table bus_line at.end < 255))

-- a step can be kept
pub record CanKeep (f : Facts) (at : Times) (held : Held) : Type 0 where
  pub register : IfSome f.dest (λ r. r < 32)
  pub few : held.latest.issued < 2 ^ 63
  pub station : IfSome at.station (λ n. n < 16)
  pub reserve : CanReserve f at held.table

-- nothing that is held is past the greatest end, and the table has each cycle after the last issue
pub record IsSettledBy (held : Held) : Type 0 where
  pub base : held.table.base ≤ held.latest.issue
  pub starts : (unit : UnitId) (t : ℕ) → held.latest.end < t → taken_at held.table (place_of_unit unit) t ≡ 0
  pub results : (t : ℕ) → held.latest.end < t → taken_at held.table bus_line t ≡ 0
  pub stations : (pool : PoolId) (n : ℕ) → n < 16 → end_at held.ends pool n ≤ held.latest.end
  pub finishes : All (λ a. a.finish ≤ held.latest.end) held.accesses
  pub ends : (r : ℕ) → r < 32 → slice_index held.latest.ends r ≤ held.latest.end
  -- x0 is never written
  pub zero : slice_index held.latest.ends 0 ≡ 0
  pub issue : held.latest.issue ≤ held.latest.end
  pub branch : held.latest.branch ≤ held.latest.end
  pub address : held.latest.address ≤ held.latest.end

-- a step of these facts can be timed by what is held, and kept
pub record IsReady (config : Configuration) (held : Held) (f : Facts) : Type 0 where
  pub range : AreInRange f
  pub memory : is_some f.bytes ≡ is_memory_pool f.pool
  pub settled : IsSettledBy held
  pub small : held.latest.end < 2 ^ 63
  pub few : held.latest.issued < 2 ^ 63
  pub keeps : (next : Next) → IsNextBy config held f next → CanKeep f next.at held
