-- Which load or store computes its address: the oldest without one, if its base is there.
use Rattle.std.specs.Prelude.{ℕ, ◌≡◌, ◌<◌, ◌≤◌, Bool, true, false, ◌⊎◌, List, Option, Some, None, slice_index}
use Rattle.tomex_tags.specs.declared.station.Station.{Station}
use Rattle.tomex_tags.specs.Contents.{lacks_address, slot}
use Rattle.tomex_timing.specs.declared.tables.Field.{Field}
use Rattle.tomex_timing.specs.declared.tables.Field.TheVariants.{Value, Waits, Unread}

abbrev pub is_value : Field → Bool
is_value (Value v) = true
is_value (Waits tag) = false
is_value Unread = false

abbrev pub has_base : Option Station → Bool
has_base None = false
has_base (Some s) = is_value s.j

-- no load or store is without its address
abbrev pub NoneLacks : List (Option Station) → Type 0
NoneLacks slots = (x : ℕ) → x < 128 → lacks_address (slot slots x) ≡ false

-- the load or store in a place has no address yet, and no other one without an address issued before it
pub record IsOldestLacking (slots : List (Option Station)) (issue_numbers : List ℕ) (x : ℕ) : Type 0 where
  pub low : x < 128
  pub lacks : lacks_address (slot slots x) ≡ true
  pub oldest : (y : ℕ) → y < 128 → lacks_address (slot slots y) ≡ true
      → slice_index issue_numbers x ≤ slice_index issue_numbers y

-- its place, if its base is there; none if no station misses its address, or if the oldest that does waits for its
-- base
abbrev pub IsNextAddress : List (Option Station) → List ℕ → Option ℕ → Type 0
IsNextAddress slots issue_numbers None =
    NoneLacks slots ⊎ ((x : ℕ) × IsOldestLacking slots issue_numbers x × (has_base (slot slots x) ≡ false))
IsNextAddress slots issue_numbers (Some x) = IsOldestLacking slots issue_numbers x × (has_base (slot slots x) ≡ true)
