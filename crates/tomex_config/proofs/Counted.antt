-- The number of configurations in a grid: the product of the lengths of its axes.
use Rattle.std.proofs.Common.{◌≡◌, ◌*◌, ◌≤◌, ℕ, false, List, [], ◌∷◌, length, map, refl, arith, length-append}
use Rattle.std.specs.List.{flat_map}
use Rattle.tomex_config.specs.Configuration.{Configuration, plain}
use Rattle.tomex_config.specs.Grid.{Lists, rows_of, lengths, product, has_empty, is_above_limit, is_too_large}
use Rattle.tomex_config.proofs.Lengths.{product_positive}
use Rattle.tomex_config.proofs.Varied.{Axis, counts, options, chosen, all_axes}

length-flat_map-same : {V : Type 0} (follows : V → List Configuration) (n : ℕ)
    → ((value : V) → length (follows value) ≡ n)
    → (values : List V) → length (flat_map follows values) ≡ length values * n
length-flat_map-same follows n same [] = omega arith
length-flat_map-same follows n same (value ∷ values) =
    grind (arith, length-append, same value, length-flat_map-same follows n same values)

axis_length : Axis → ℕ
axis_length (counts part values) = length values
axis_length (options part values) = length values

length-chosen : (axes : List Axis) (config : Configuration)
    → length (chosen axes config) ≡ product (map axis_length axes)
unfolding axis_length
length-chosen [] config = refl
length-chosen (counts part values ∷ axes) config =
    length-flat_map-same (λ value. chosen axes (part config value)) (product (map axis_length axes))
    (λ value. length-chosen axes (part config value)) values
length-chosen (options part values ∷ axes) config =
    length-flat_map-same (λ value. chosen axes (part config value)) (product (map axis_length axes))
    (λ value. length-chosen axes (part config value)) values

length-rows_of : (axes : Lists) → length (rows_of axes) ≡ product (lengths axes)
unfolding rows_of axis_length
length-rows_of axes = length-chosen (all_axes axes) plain

-- if no axis is empty and the grid isn't too large
pub row_count : (axes : Lists) → has_empty axes ≡ false → is_too_large axes ≡ false
    → (1 ≤ length (rows_of axes)) × (length (rows_of axes) ≤ 16384)
unfolding has_empty is_above_limit
row_count axes some few =
    rw (length-rows_of axes) (product_positive (lengths axes) some, grind (arith, few))
