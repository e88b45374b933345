-- The rows that are shown are rows of the front.
use Rattle.std.proofs.Common.{◌≡◌, cond, arith, ℕ, zero, suc, ◌+◌, ◌<◌, Bool}
use Rattle.std.proofs.Common.{true, false, refl, List, length, map, All}
use Rattle.std.specs.Prelude.{nat_le}
use Rattle.std.specs.List.{Contains, range_with_len}
use Rattle.std.proofs.lemmas.Bool.{leb-false}
use Rattle.std.proofs.lemmas.List.Elements.{All-cons, All-contains, All-contains_itself, All-nil, Contains-get_or}
use Rattle.tomex_pareto.specs.declared.front_row.FrontRow.{FrontRow}
use Rattle.tomex_page_tables.specs.Shown.{chosen_row, chosen_place, no_row, shown_rows}

all_values : {X : Type 0} (P : X → Type 0) (f : ℕ → X) (a n : ℕ) → ((k : ℕ) → k < a + n → P (f k))
    → All P (map f (range_with_len a n))
all_values P f a zero each = All-nil P
all_values P f a (suc n) each =
    All-cons P (f a) (map f (range_with_len (a + 1) n)) (each a (omega arith))
    (all_values P f (a + 1) n (λ k below. each k (omega (arith, below))))

-- each place is within the front
pub place_within : (n k : ℕ) → 0 < n → k < 64 → chosen_place n k < n
place_within n k some few = grind arith

all_cond : (front other : List FrontRow) (b : Bool) → All (Contains front) front
    → (b ≡ false → All (Contains front) other) → All (Contains front) (cond b front other)
all_cond front other true all rest = all
all_cond front other false all rest = rest refl

pub shown_in : (front : List FrontRow) → All (Contains front) (shown_rows front)
unfolding shown_rows
shown_in front =
    all_cond front (map (chosen_row front) (range_with_len 0 64)) (nat_le (length front) 64) (All-contains_itself front)
    (λ long. all_values (Contains front) (chosen_row front) 0 64 (λ k few.
    Contains-get_or front (chosen_place (length front) k) no_row
    (place_within (length front) k (omega (arith, leb-false (length front) 64 long)) (omega (arith, few)))))

-- what holds of the front's rows holds of those that are shown
pub shown_all : (P : FrontRow → Type 0) (front shown : List FrontRow) → All P front → All (Contains front) shown
    → All P shown
shown_all P front shown all within = λ k d inside. All-contains P front _ all (within k d inside)
