-- Cycles that tests of boards choose for rows of which they know only the number of costs.
use Rattle.std.proofs.Common.{◌≡◌, ℕ, ◌<◌, ◌≤◌, ◌^◌, List, [], ◌∷◌, All, map, length, arith}
use Rattle.std.proofs.lemmas.List.{length-map}
use Rattle.std.proofs.lemmas.List.Elements.{All-nil, All-cons}
use Rattle.tomex_board.specs.Plans.{IsPlan}

abbrev Low : ℕ → Type 0
Low c = c < 2 ^ 38

ones_low : (xs : List ℕ) → All (λ c. c < 2 ^ 38) (map (λ _. 1) xs)
ones_low [] = All-nil Low
ones_low (x ∷ xs) = All-cons Low 1 (map (λ _. 1) xs) (omega arith) (ones_low xs)

-- each row takes one cycle
pub ones_plan : (costs : List ℕ) → 1 ≤ length costs → length costs ≤ 16384 → IsPlan costs (map (λ _. 1) costs)
ones_plan costs some few = (some, few, length-map costs (λ _. 1), ones_low costs)
