-- What busy stations wait for: sets of their places.
use Rattle.std.specs.Prelude.{ℕ, ◌<◌, ◌≡◌, ◌==◌, Bool, false, ◌&&◌, if◌then◌else◌, List, Option, Some, None, is_some}
use Rattle.tomex_bus.specs.Sets.{has}
use Rattle.tomex_rvdec.specs.Operands.{dest_of, pool_of, unit_of}
use Rattle.tomex_rvdec.specs.declared.pool.PoolId.TheVariants as pools
use Rattle.tomex_rvexec.specs.Steps.{is_in}
use Rattle.tomex_rvdec.specs.declared.pool.UnitId.{UnitId}
use Rattle.tomex_timing.specs.History.{is_of}
use Rattle.tomex_tags.specs.declared.wait_sets.WaitSets.{WaitSets}
use Rattle.tomex_tags.specs.declared.station.Station.{Station}
use Rattle.tomex_tags.specs.Contents.{is_memory_op, is_waiting, lacks_address, slot}

-- a load or store whose address is computed
abbrev pub has_address : Option Station → Bool
has_address None = false
has_address (Some s) = is_memory_op s.instr.op && is_some s.address

-- a store
abbrev pub holds_store : Option Station → Bool
holds_store None = false
holds_store (Some s) = is_in pools.Store (pool_of s.instr.op)

-- the station waits only for a unit and for older accesses
abbrev pub waits : Option Station → Bool
waits None = false
waits (Some s) = is_waiting s

-- the station waits only for a unit of this kind and for older accesses
abbrev pub waits_for : UnitId → Option Station → Bool
waits_for unit None = false
waits_for unit (Some s) = is_waiting s && is_of unit (unit_of s.instr.op)

-- the instruction writes a register: it has a result to send
abbrev pub writes : Option Station → Bool
writes None = false
writes (Some s) = is_some (dest_of s.instr)

-- a set is that of the places whose stations pass a test
abbrev pub IsSetOf : (Option Station → Bool) → List (Option Station) → ℕ → Type 0
IsSetOf test slots set = (x : ℕ) → x < 128 → has set x ≡ test (slot slots x)

-- the sets follow from the stations in the places
pub record AreWaitSets (slots : List (Option Station)) (sets : WaitSets) : Type 0 where
  pub lacking : IsSetOf lacks_address slots sets.lacking
  pub waiting : IsSetOf waits slots sets.waiting
  pub writing : IsSetOf writes slots sets.writing

-- a set after a place is made a member, or not
abbrev pub IsWithMember : ℕ → Bool → ℕ → ℕ → Type 0
IsWithMember x member old new = (y : ℕ) → y < 128 → has new y ≡ (if x == y then member else has old y)

-- the sets after this station, or none, is put into a place
pub record HasEntered (x : ℕ) (station : Option Station) (old new : WaitSets) : Type 0 where
  pub lacking : IsWithMember x (lacks_address station) old.lacking new.lacking
  pub waiting : IsWithMember x (waits station) old.waiting new.waiting
  pub writing : IsWithMember x (writes station) old.writing new.writing

-- a place is in none of the sets
pub record IsOut (x : ℕ) (sets : WaitSets) : Type 0 where
  pub lacking : has sets.lacking x ≡ false
  pub waiting : has sets.waiting x ≡ false
  pub writing : has sets.writing x ≡ false

-- all except the set of those that wait are as before
pub record KeepsOthers (old new : WaitSets) : Type 0 where
  pub lacking : new.lacking ≡ old.lacking
  pub writing : new.writing ≡ old.writing
