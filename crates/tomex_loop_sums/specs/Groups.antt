-- Items by their keys.
use Rattle.std.specs.Prelude.{ℕ, ◌==◌, if◌then◌else◌, List, [], ◌∷◌, map}
use Rattle.std.specs.List.{range_with_len}

-- the items with a key, in order
abbrev pub with_key : {X : Type 0} → ℕ → List ℕ → List X → List X
with_key n [] items = []
with_key n (k ∷ keys) [] = []
with_key n (k ∷ keys) (x ∷ items) = if k == n then x ∷ with_key n keys items else with_key n keys items

-- those with each key below a number
abbrev pub groups_by : {X : Type 0} → ℕ → List ℕ → List X → List (List X)
groups_by count keys items = map (λ n. with_key n keys items) (range_with_len 0 count)
