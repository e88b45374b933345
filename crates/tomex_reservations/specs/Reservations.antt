-- The reservation table of the cycles ahead, and the ends of the stations' steps.
use Rattle.std.specs.Prelude.{ℕ, ◌+◌, ◌*◌, ◌-◌, ◌<◌, ◌≤◌, ◌≡◌, ◌==◌, nat_lt, nat_le, Bool, false, ◌&&◌, IsTrue}
use Rattle.std.specs.Prelude.{if◌then◌else◌, List, slice_index, slice_index_or, replicate}
use Rattle.tomex_rvdec.specs.Places.{place_of_pool}
use Rattle.tomex_rvdec.specs.declared.pool.PoolId.{PoolId}

-- t is the first number from `from` on that passes
abbrev pub IsFirst : ℕ → (ℕ → Bool) → ℕ → Type 0
IsFirst from p t = IsTrue (nat_le from t && p t) × ((s : ℕ) → s < t → (nat_le from s && p s) ≡ false)

-- The reservation table.

-- its first cycle, and for each cycle from there on how many of each line are taken: of the five kinds of unit, in
-- their order, and of the buses
pub record Reserved : Type 0 where
  pub base : ℕ
  pub slots : List (List ℕ)

abbrev pub bus_line : ℕ
bus_line = 5

-- a cycle in which nothing is taken; there is room for two more lines
abbrev pub free_slot : List ℕ
free_slot = replicate 8 0

-- how many of each line are taken in a cycle; none past the table's end
abbrev pub slot_at : Reserved → ℕ → List ℕ
slot_at table t = slice_index_or table.slots (t - table.base) free_slot

-- and how many of one line
abbrev pub taken_at : Reserved → ℕ → ℕ → ℕ
taken_at table line t = slice_index (slot_at table t) line

-- one of `most` is left
abbrev pub is_left : Reserved → ℕ → ℕ → ℕ → Bool
is_left table line most t = nat_lt (taken_at table line t) most

-- after one more of a line is taken in a cycle
abbrev pub taken_with : Reserved → ℕ → ℕ → ℕ → ℕ → ℕ
taken_with table line cycle l t = if l == line && t == cycle then taken_at table l t + 1 else taken_at table l t

-- The stations.

-- the place of a pool's station in the list of ends
abbrev pub station_place : PoolId → ℕ → ℕ
station_place pool n = 16 * place_of_pool pool + n

abbrev pub end_at : List ℕ → PoolId → ℕ → ℕ
end_at ends pool n = slice_index ends (station_place pool n)

-- in the cycle, and in none before it from this one on, a station of the pool is free, and this is the least number
-- of one
pub record IsFreeFirst (ends : List ℕ) (pool : PoolId) (count from cycle n : ℕ) : Type 0 where
  pub begun : from ≤ cycle
  pub there : n < count
  pub free : end_at ends pool n < cycle
  pub least : (k : ℕ) → k < n → cycle ≤ end_at ends pool k
  pub none : (k t : ℕ) → k < count → from ≤ t → t < cycle → t ≤ end_at ends pool k
