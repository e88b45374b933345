-- An array of fewer or more than two values isn't a range of memory.
use Rattle.std.proofs.Common.{◌≡◌, ◌<◌, ◌≤◌, List, [], ◌∷◌, length, Some, Err, refl, arith}
use Rattle.toml.specs.View.{items_view}
use Rattle.toml.specs.declared.value.Value.{Value}
use Rattle.tomex_image.specs.Window.{Span}
use Rattle.tomex_values.specs.declared.place.Key.TheVariants as key
use Rattle.tomex_values.specs.declared.place.Place.{Place}
use Rattle.tomex_values.specs.declared.error.DocumentError.TheVariants.{Range}
use Rattle.tomex_document.specs.Watch.{range_from}

pub pair_short : (place : Place) (window : Span) (vs : List Value) → length vs < 2
    → Err (Range place key.Watch) ≡ range_from place window (Some (items_view vs))
pair_short place window [] short = refl
pair_short place window (v ∷ []) short = refl
pair_short place window (v ∷ w ∷ vs) short = absurd (omega (arith, short))

pub pair_long : (place : Place) (window : Span) (vs : List Value) → 3 ≤ length vs
    → Err (Range place key.Watch) ≡ range_from place window (Some (items_view vs))
pair_long place window [] long = refl
pair_long place window (v ∷ []) long = refl
pair_long place window (v ∷ w ∷ []) long = absurd (omega (arith, long))
pair_long place window (v ∷ w ∷ x ∷ vs) long = refl
