-- An access waits for older ones that share a byte with it, one of the two being a store.
use Rattle.std.specs.Prelude.{ℕ, ◌≡◌, ◌<◌, Bool, true, false, not, nat_lt, ◌&&◌}
use Rattle.std.specs.Prelude.{◌||◌, List, Option, Some, None, slice_index}
use Rattle.tomex_rvexec.specs.Steps.{is_store, shares_byte}
use Rattle.tomex_bus.specs.Sets.{has}
use Rattle.tomex_tags.specs.declared.station.Station.{Station}
use Rattle.tomex_tags.specs.Contents.{bytes_in, slot, step_in}
use Rattle.tomex_tags.specs.Pools.{Pools}
use Rattle.tomex_tags.specs.WaitSets.{has_address}

-- an operation was finished before the cycle
abbrev pub is_finished_before : Option ℕ → ℕ → Bool
is_finished_before None cycle = false
is_finished_before (Some finish) cycle = nat_lt finish cycle

-- the accesses of two stations, as far as their addresses are computed, share a byte, one of them being a store
abbrev pub stations_conflict : Station → Station → Bool
stations_conflict other s =
    shares_byte (bytes_in other) (bytes_in s) && (is_store (step_in other) || is_store (step_in s))

-- an older station, if there is one, doesn't block another: they don't conflict, or it was finished before the cycle
abbrev pub lets_pass : Option Station → Station → ℕ → Bool
lets_pass None s cycle = true
lets_pass (Some other) s cycle = not (stations_conflict other s) || is_finished_before other.finish cycle

-- the station in a place blocks one that issued as number n: it is older, and doesn't let it pass
abbrev pub blocks : Pools → ℕ → ℕ → Station → ℕ → Bool
blocks pools other n s cycle =
    nat_lt (slice_index pools.issue_numbers other) n && not (lets_pass (slot pools.slots other) s cycle)

-- each older station that blocks the one in a place is in this set
abbrev pub HasEachBlocker : Pools → ℕ → Station → ℕ → ℕ → Type 0
HasEachBlocker pools place s cycle rivals =
    (x : ℕ) → x < 128 → slice_index pools.issue_numbers x < slice_index pools.issue_numbers place → has rivals x ≡ false
    → lets_pass (slot pools.slots x) s cycle ≡ true

-- no station that issued before the one in a place blocks it
abbrev pub IsClear : List (Option Station) → List ℕ → ℕ → Station → ℕ → Type 0
IsClear slots issue_numbers place s cycle =
    (x : ℕ) → x < 128 → slice_index issue_numbers x < slice_index issue_numbers place
    → lets_pass (slot slots x) s cycle ≡ true

-- if there is a station in a place, no older one blocks it
abbrev pub IsClearAt : Pools → ℕ → ℕ → Type 0
IsClearAt pools place cycle =
    (s : Station) → slot pools.slots place ≡ Some s → IsClear pools.slots pools.issue_numbers place s cycle

-- at most one station holds a load or store whose address is computed
abbrev pub HasAtMostOneAccess : List (Option Station) → Type 0
HasAtMostOneAccess slots =
    (a b : ℕ) → a < 128 → b < 128 → has_address (slot slots a) ≡ true
    → has_address (slot slots b) ≡ true → a ≡ b
