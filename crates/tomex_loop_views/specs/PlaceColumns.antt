-- The places of a run's loops, by their numbers: the code's own words.
use Rattle.std.specs.Prelude.{ℕ, ◌≡◌, ◌<◌, List, [], Option, None, length, map, slice_index, slice_index_or}
use Rattle.tomex_symbols.specs.declared.symbol.Symbol.{Symbol}
use Rattle.tomex_loops.specs.declared.visit.Visit.{Visit}
use Rattle.tomex_loop_views.specs.declared.places.Places.{Places}
use Rattle.tomex_loop_views.specs.PlaceOf.{IsPlaceOf}

-- one for each loop
pub record ArePlaces {A : Type 0} (symbols : List Symbol) (addresses heads : List ℕ) (visits : List Visit)
    (here : List (Option ℕ)) (p : Places A) : Type 0 where
  pub heads_count : length p.heads.items ≡ length heads
  pub functions_count : length p.functions.items ≡ length heads
  pub extents_count : length p.extents.items ≡ length heads
  pub around_count : length p.around.items ≡ length heads
  pub are : (n : ℕ) → n < length heads → IsPlaceOf symbols addresses heads visits here n
      (slice_index p.heads.items n) (slice_index_or p.functions.items n None) (slice_index_or p.extents.items n None)
      (slice_index_or (map (λ group. group.items) p.around.items) n [])
