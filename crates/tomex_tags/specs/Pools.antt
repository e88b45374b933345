-- The stations of all pools.
use Rattle.std.specs.Prelude.{ℕ, ◌+◌, ◌*◌, ◌/◌, ◌^◌, ◌<◌, ◌≡◌, Bool, List, [], ◌∷◌, ⊤, Option}
use Rattle.std.specs.Prelude.{Some, None, is_none, is_some, length, option_map}
use Rattle.std.specs.List.{flat_map}
use Rattle.tomex_bus.specs.Sets.{has}
use Rattle.tomex_rvdec.specs.Operands.{pool_of}
use Rattle.tomex_rvdec.specs.Places.{place_of_pool}
use Rattle.tomex_rvdec.specs.declared.pool.PoolId.{PoolId}
use Rattle.tomex_tags.specs.declared.station.Station.{Station}
use Rattle.tomex_tags.specs.Contents.{with_change, hears, slot}
use Rattle.tomex_tags.specs.declared.wait_sets.WaitSets.{WaitSets}
use Rattle.tomex_tags.specs.Listeners.{AreListening}
use Rattle.tomex_tags.specs.Places.{pool_at}
use Rattle.tomex_tags.specs.WaitSets.{AreWaitSets}

-- For each place its station, the set of the busy places, and for each place an issue number: how many instructions
-- had issued before the one there, or before the one that was there last.
pub record Pools : Type 0 where
  pub slots : List (Option Station)
  pub busy : ℕ
  pub issue_numbers : List ℕ

abbrev pub slots_of : List (List (Option Station)) → List (Option Station)
slots_of pools = flat_map (λ stations. stations) pools

abbrev pub AreSixteen : List (List (Option Station)) → Type 0
AreSixteen [] = ⊤
AreSixteen (stations ∷ rest) = (length stations ≡ 16) × AreSixteen rest

-- six pools of 16
pub record AreSix (pools : List (List (Option Station))) : Type 0 where
  pub count : length pools ≡ 6
  pub sizes : AreSixteen pools

-- the set is that of the places in which a station is busy
pub record AreBusy (slots : List (Option Station)) (busy : ℕ) (issue_numbers : List ℕ) : Type 0 where
  pub places : length slots ≡ 96
  pub order_count : length issue_numbers ≡ 128
  pub small : busy < 2 ^ 128
  pub each : (x : ℕ) → x < 128 → has busy x ≡ is_some (slot slots x)

-- a station holds an instruction of its own pool
abbrev pub IsOwn : ℕ → Option Station → Type 0
IsOwn x None = ⊤
IsOwn x (Some s) = pool_of s.instr.op ≡ Some (pool_at (x / 16))

abbrev pub AreOwn : List (Option Station) → Type 0
AreOwn slots = (x : ℕ) → x < 96 → IsOwn x (slot slots x)

pub record AreFilled (pools : List (List (Option Station))) (busy : ℕ) (issue_numbers : List ℕ) (sets : WaitSets)
    (listeners : List ℕ) : Type 0 where
  pub six : AreSix pools
  pub own : AreOwn (slots_of pools)
  pub listening : AreListening (slots_of pools) listeners
  pub wait_sets : AreWaitSets (slots_of pools) sets
  pub filled : AreBusy (slots_of pools) busy issue_numbers

-- a pool's station of this number is free
abbrev pub is_open : List (Option Station) → PoolId → ℕ → Bool
is_open slots pool n = is_none (slot slots (16 * place_of_pool pool + n))

-- the station in a place changes, if there is one, and nothing else does
pub record ChangesStation (place : ℕ) (change : Station → Station) (old new : Pools) : Type 0 where
  pub slots : new.slots ≡ with_change change place old.slots
  pub busy : new.busy ≡ old.busy
  pub issue_numbers : new.issue_numbers ≡ old.issue_numbers

-- each station has received the values that are sent, and nothing else has changed
pub record HaveHeard (sent : ℕ → Option ℕ) (old new : Pools) : Type 0 where
  pub places : length new.slots ≡ 96
  pub slots : (x : ℕ) → x < 96 → slot new.slots x ≡ option_map (hears sent) (slot old.slots x)
  pub busy : new.busy ≡ old.busy
  pub issue_numbers : new.issue_numbers ≡ old.issue_numbers
