-- The evaluator's record of a stretch's steps so far. It counts cycles on from stretch to stretch: those up to the
-- stretch's `base` are of older ones, and count as none.
use Rattle.std.specs.Prelude.{ℕ, ◌+◌, ◌-◌, ◌<◌, ◌≤◌, ◌≡◌, nat_lt}
use Rattle.std.specs.Prelude.{nat_le, nat_eq, Bool, ◌&&◌, if◌then◌else◌, max, List, []}
use Rattle.std.specs.Prelude.{◌∷◌, length, slice_index, unwrap_or}
use Rattle.std.specs.HashMap.{HashMap, get}
use Rattle.tomex_rvexec.specs.Steps.{is_branch}
use Rattle.tomex_timing.specs.declared.recent.Facts.{Facts}
use Rattle.tomex_timing.specs.declared.times.Done.{Done}
use Rattle.tomex_timing.specs.declared.times.Times.{Times}
use Rattle.tomex_timing.specs.History.{cycle_of, greatest_end, last_address, writer_end}
use Rattle.tomex_timing.specs.Recent.{is_memory_pool, written_by}
use Rattle.tomex_floor.specs.Floor.{issue_back, last_finish}
use Rattle.tomex_floor.specs.Kept.{touched_in}
use Rattle.tomex_stretches.specs.declared.accesses.Finishes.{Finishes}
use Rattle.tomex_stretches.specs.declared.latest.Latest.{Latest}

-- the latest of each kind of cycle in a history; of issues the last four, the youngest first
pub record IsLatest (h : List Done) (latest : Latest) : Type 0 where
  pub count : length latest.ends ≡ 32
  pub ends : (r : ℕ) → r < 32 → slice_index latest.ends r - latest.base ≡ writer_end h r
  pub issued : length latest.issues ≡ 4
  pub issues : (n : ℕ) → n < 4 → slice_index latest.issues n - latest.base ≡ issue_back h n
  pub branch : latest.branch - latest.base ≡ last_finish is_branch h
  pub address : latest.address - latest.base ≡ last_address h
  pub end : latest.end - latest.base ≡ greatest_end h

-- no cycle is later than this one
pub record IsLatestBy (g : ℕ) (latest : Latest) : Type 0 where
  pub count : length latest.ends ≡ 32
  pub ends : (r : ℕ) → r < 32 → slice_index latest.ends r ≤ g
  pub issued : length latest.issues ≡ 4
  pub issues : (n : ℕ) → n < 4 → slice_index latest.issues n ≤ g
  pub branch : latest.branch ≤ g
  pub address : latest.address ≤ g
  pub end : latest.end ≤ g
  pub base : latest.base ≤ g

-- the latest of each kind of cycle after one more step
abbrev pub latest_after : Facts → Times → Latest → Latest
latest_after f at latest = record {
  ends = written_by f.dest at.end latest.ends;
  issues = at.issue ∷ slice_index latest.issues 0 ∷ slice_index latest.issues 1 ∷ slice_index latest.issues 2 ∷ [];
  branch = if f.is_branch then max at.finish latest.branch else latest.branch;
  address = if is_memory_pool f.pool then cycle_of at.address else latest.address;
  end = max at.end latest.end;
  last = max (max at.end (cycle_of at.address)) latest.last;
  base = latest.base;
}

-- the first times are the second ones, a number of cycles later
pub record AreLaterBy (n : ℕ) (a b : Times) : Type 0 where
  pub issue : a.issue ≡ n + b.issue
  pub address : cycle_of a.address - n ≡ cycle_of b.address
  pub finish : a.finish ≡ n + b.finish
  pub end : a.end ≡ n + b.end

-- Accesses.

abbrev pub no_finishes : Finishes
no_finishes = record { store = 0; access = 0 }

-- the finishes of a byte after one more access
abbrev pub noted : Bool → ℕ → Finishes → Finishes
noted is_store finish f = record {
  store = if is_store then max finish f.store else f.store;
  access = max finish f.access;
}

abbrev pub finishes_at : {S : Type 0} → HashMap ℕ Finishes S → ℕ → Finishes
finishes_at m b = unwrap_or (get nat_eq m b) no_finishes

-- a map has the latest finishes of the accesses to each byte in a history
pub record AreTouched {S : Type 0} (base : ℕ) (h : List Done) (m : HashMap ℕ Finishes S) : Type 0 where
  pub store : (b : ℕ) → (finishes_at m b).store - base ≡ (touched_in h b).store
  pub access : (b : ℕ) → (finishes_at m b).access - base ≡ (touched_in h b).access

-- none is later than this one
pub record AreTouchedBy {S : Type 0} (g : ℕ) (m : HashMap ℕ Finishes S) : Type 0 where
  pub store : (b : ℕ) → (finishes_at m b).store ≤ g
  pub access : (b : ℕ) → (finishes_at m b).access ≤ g

-- the finish that a load or a store of a byte waits for
abbrev pub waited_of : Bool → Finishes → ℕ
waited_of is_store f = if is_store then f.access else f.store

-- an access to the bytes from one up to another is noted
abbrev pub AreNoted : {S : Type 0} → (from to : ℕ) → Bool → ℕ → (old new : HashMap ℕ Finishes S) → Type 0
AreNoted from to is_store finish old new =
    (b : ℕ) → finishes_at new b
    ≡ (if nat_le from b && nat_lt b to then noted is_store finish (finishes_at old b) else finishes_at old b)
