-- Which stations wait for a place's result.
use Rattle.std.specs.Prelude.{ℕ, Bool, true, false, ◌<◌, ◌≡◌, ◌||◌, List, Option, Some, None, length, slice_index}
use Rattle.tomex_bus.specs.Sets.{has}
use Rattle.tomex_timing.specs.declared.tables.Field.{Field}
use Rattle.tomex_tags.specs.declared.station.Station.{Station}
use Rattle.tomex_tags.specs.Operands.{comes_from}
use Rattle.tomex_tags.specs.Contents.{slot}

-- an operand of the station, if there is one, is still to come from place x
abbrev pub awaits : ℕ → Option Station → Bool
awaits x None = false
awaits x (Some s) = comes_from x s.j || comes_from x s.k

-- for each place, a set that has the places of all stations with an operand to come from it
pub record AreListening (slots : List (Option Station)) (sets : List ℕ) : Type 0 where
  pub count : length sets ≡ 96
  pub each : (x y : ℕ) → x < 96 → y < 96 → awaits y (slot slots x) ≡ true → has (slice_index sets y) x ≡ true

-- the place of an operand's station is a member of the set of the place that the operand is to come from; no member
-- is lost
pub record IsListening (x : ℕ) (operand : Field) (old new : List ℕ) : Type 0 where
  pub count : length new ≡ length old
  pub kept : (y z : ℕ) → y < 96 → has (slice_index old y) z ≡ true → has (slice_index new y) z ≡ true
  pub added : (y : ℕ) → y < 96 → comes_from y operand ≡ true → has (slice_index new y) x ≡ true
