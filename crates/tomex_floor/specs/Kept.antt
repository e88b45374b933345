-- The evaluator's record of the steps so far, for each issue width: the latest of each kind of cycle, and when each
-- byte of memory was last accessed.
use Rattle.std.specs.Prelude.{ℕ, zero, suc, ◌+◌, ◌/◌, ◌%◌, ◌<◌, ◌≤◌, ◌≡◌, nat_lt, nat_le, Bool, false, ◌&&◌, ◌||◌}
use Rattle.std.specs.Prelude.{if◌then◌else◌}
use Rattle.std.specs.Prelude.{min, max, List, [], ◌∷◌, Option, Some, None, nat_eq, replicate, slice_index}
use Rattle.std.specs.Prelude.{slice_index_or}
use Rattle.std.specs.Prelude.{length, unwrap_or}
use Rattle.std.specs.HashMap.{HashMap, get}
use Rattle.tomex_rvdec.specs.declared.pool.UnitId.{UnitId}
use Rattle.tomex_rvexec.specs.Steps.{bytes_of, is_branch, is_store}
use Rattle.tomex_rvexec.specs.declared.step.ByteRange.{ByteRange}
use Rattle.tomex_rvexec.specs.declared.step.Step.{Step}
use Rattle.tomex_timing.specs.declared.times.Done.{Done}
use Rattle.tomex_timing.specs.declared.times.Times.{Times}
use Rattle.tomex_timing.specs.History.{cycle_of, writer_end, last_address, greatest_end}
use Rattle.tomex_timing.specs.Recurrence.{conflicts}
use Rattle.tomex_timing.specs.declared.recent.Facts.{Facts}
use Rattle.tomex_timing.specs.Recent.{is_memory_pool, written_by}
use Rattle.tomex_floor.specs.declared.latest.Latest.{Latest}
use Rattle.tomex_floor.specs.declared.accesses.Finishes.{Finishes}
use Rattle.tomex_floor.specs.declared.accesses.Word.{Word}
use Rattle.tomex_floor.specs.Floor.{floor_times, floors_of, issue_back, last_finish}

-- The latest of each kind of cycle.

-- the latest of each kind of cycle in a history; of issues the last four, the youngest first
pub record IsLatest (h : List Done) (latest : Latest) : Type 0 where
  pub count : length latest.ends ≡ 32
  pub ends : (r : ℕ) → r < 32 → slice_index latest.ends r ≡ writer_end h r
  pub issued : length latest.issues ≡ 4
  pub issues : (n : ℕ) → n < 4 → slice_index latest.issues n ≡ issue_back h n
  pub branch : latest.branch ≡ last_finish is_branch h
  pub address : latest.address ≡ last_address h
  pub end : latest.end ≡ greatest_end h

-- none of the latest is later than a cycle
pub record IsLatestBy (g : ℕ) (latest : Latest) : Type 0 where
  pub ends : (r : ℕ) → r < 32 → slice_index latest.ends r ≤ g
  pub issues : (n : ℕ) → n < 4 → slice_index latest.issues n ≤ g
  pub branch : latest.branch ≤ g
  pub address : latest.address ≤ g

-- the latest of each kind of cycle after one more step
abbrev pub latest_after : Facts → Times → Latest → Latest
latest_after f at latest = record {
  ends = written_by f.dest at.end latest.ends;
  issues = at.issue ∷ slice_index latest.issues 0 ∷ slice_index latest.issues 1 ∷ slice_index latest.issues 2 ∷ [];
  branch = if f.is_branch then max at.finish latest.branch else latest.branch;
  address = if is_memory_pool f.pool then cycle_of at.address else latest.address;
  end = max at.end latest.end;
}

-- the same in the histories of the widths from 1 to 4
abbrev pub AreLatest : (ℕ → List Done) → List Latest → Type 0
AreLatest h latest = (n : ℕ) (d : Latest) → n < 4 → IsLatest (h n) (slice_index_or latest n d)

-- a history with one more step
abbrev pub history_after : (UnitId → ℕ) → Step → (ℕ → List Done) → ℕ → List Done
history_after latency s h n = record { step = s; at = floor_times latency (n + 1) (h n) s } ∷ h n

-- the finish of this step
abbrev pub finish_of : (UnitId → ℕ) → Step → (ℕ → List Done) → ℕ → ℕ
finish_of latency s h n = (floor_times latency (n + 1) (h n) s).finish

-- the histories of a run's floors
abbrev pub histories : (UnitId → ℕ) → List Step → ℕ → List Done
histories latency steps n = floors_of latency (n + 1) steps

-- the latest finishes of the accesses that a step conflicts with
abbrev pub AreConflicts : Step → (ℕ → List Done) → List ℕ → Type 0
AreConflicts s h finishes = (n : ℕ) → n < 4 → slice_index finishes n ≡ last_finish (λ x. conflicts x s) (h n)

-- Accesses.

-- the latest finish of the stores to a byte, and of the loads and stores
pub record Touched : Type 0 where
  pub store : ℕ
  pub access : ℕ

-- an access has this byte
abbrev pub has_byte : ℕ → Option ByteRange → Bool
has_byte b None = false
has_byte b (Some r) = nat_le r.from b && nat_lt b r.to

abbrev pub touched_in : List Done → ℕ → Touched
touched_in h b = record {
  store = last_finish (λ x. has_byte b (bytes_of x) && is_store x) h;
  access = last_finish (λ x. has_byte b (bytes_of x)) h;
}

-- a byte after one more access
abbrev pub touched_by : Bool → ℕ → Touched → Touched
touched_by store finish t = record {
  store = if store then max finish t.store else t.store;
  access = max finish t.access;
}

-- the finish that a load or a store of the byte waits for
abbrev pub waited_for : Bool → Touched → ℕ
waited_for store t = if store then t.access else t.store

-- one of the bytes from one up to another belongs to the access
abbrev pub has_some : (from to : ℕ) → Option ByteRange → Bool
has_some from to None = false
has_some from to (Some r) = nat_lt r.from to && nat_lt from r.to && nat_lt from to

-- a step shares one of these bytes with a load or a store, and one of the two is a store
abbrev pub shares_some : (from to : ℕ) → Bool → Step → Bool
shares_some from to store x = has_some from to (bytes_of x) && (is_store x || store)

-- the finishes kept of a byte, for the width of a place
abbrev pub touched_at : ℕ → Finishes → Touched
touched_at n f = record { store = slice_index f.store n; access = slice_index f.access n }

abbrev pub no_finishes : Finishes
no_finishes = record { store = replicate 4 0; access = replicate 4 0 }

abbrev pub no_word : Word
no_word = record { bytes = replicate 4 no_finishes }

-- the finishes of a byte of a word, and of any byte
abbrev pub touched_of : ℕ → Word → ℕ → Touched
touched_of n word lane = touched_at n (slice_index_or word.bytes lane no_finishes)

abbrev pub touched_from : {S : Type 0} → ℕ → HashMap ℕ Word S → ℕ → Touched
touched_from n m b = touched_of n (unwrap_or (get nat_eq m (b / 4)) no_word) (b % 4)

-- a map by word has the finishes of each byte in the histories of the widths
abbrev pub AreTouched : {S : Type 0} → (ℕ → List Done) → HashMap ℕ Word S → Type 0
AreTouched h m = (n b : ℕ) → n < 4 → touched_from n m b ≡ touched_in (h n) b

-- the end of the bytes of a range that are below a byte
abbrev pub below : (from to t : ℕ) → ℕ
below from to t = min to (max from t)

-- the finish that an access to these bytes waits for at those below a byte
abbrev pub conflict_below : ByteRange → ℕ → Bool → List Done → ℕ
conflict_below r t store h = last_finish (shares_some r.from (below r.from r.to t) store) h

-- the latest finish, raised to those that an access to these bytes waits for at the first k bytes of a word, which
-- begins at `first`
abbrev pub raised : ℕ → Word → ℕ → ByteRange → Bool → ℕ → ℕ → ℕ
raised n word first r store zero latest = latest
raised n word first r store (suc k) latest =
    let before = raised n word first r store k latest in
    if nat_le r.from (first + k) && nat_lt (first + k) r.to
    then max (waited_for store (touched_of n word k)) before
    else before

-- the finishes of a byte after an access to the bytes from one up to another
abbrev pub touched_after : (from to : ℕ) → Bool → ℕ → ℕ → Touched → Touched
touched_after from to store finish b t =
    if nat_le from b && nat_lt b to then touched_by store finish t else t

abbrev pub AreAfter : {S : Type 0} → (from to : ℕ) → Bool → List ℕ → (old new : HashMap ℕ Word S) → Type 0
AreAfter from to store finishes old new =
    (n b : ℕ) → n < 4
    → touched_from n new b ≡ touched_after from to store (slice_index finishes n) b (touched_from n old b)
