-- The floors of the bands: their number and their order.
use Rattle.std.proofs.Common.{◌≡◌, ℕ, zero, suc, ◌+◌, ◌*◌, ◌/◌, ◌<◌, ◌≤◌, true, false, nat_le, if◌then◌else◌, List, []}
use Rattle.std.proofs.Common.{◌∷◌, map, length, get_or, sym, refl, ap, ◌∙◌, arith, slice_index, slice_get, drop, Some}
use Rattle.std.proofs.Common.{None, ◌⊎◌, ⊎_elim, subst}
use Rattle.std.proofs.lemmas.Option.{slice_get_past}
use Rattle.std.specs.List.{range_with_len}
use Rattle.std.specs.Ordering.{nat_cmp, match_ordering}
use Rattle.std.specs.declared.cmp.Ordering.{Ordering}
use Rattle.std.specs.declared.cmp.Ordering.TheVariants.{Less, Equal, Greater}
use Rattle.std.specs.BTreeSet.{insert_key}
use Rattle.std.proofs.lemmas.Bool.Decides.{nat_tests}
use Rattle.std.proofs.lemmas.List.FromFn.{length-map-range_with_len}
use mathlib.Core.Logic.{dite}
use native.Mathlib.Decide.{dec_le}
use Rattle.tomex_board.specs.Bands.{with_costs, distinct_costs, floors_among, floors_of}

-- 64 of them, evenly spread
abbrev pub spread_among : List ℕ → List ℕ
spread_among rising = map (λ k. slice_index rising (k * length rising / 64)) (range_with_len 0 64)

pub among_few : (rising : List ℕ) → length rising ≤ 64 → floors_among rising ≡ rising
among_few rising few = let test : nat_le (length rising) 64 ≡ true = grind (arith, nat_tests) in
    ap (λ b. if b then rising else spread_among rising) test

pub among_many : (rising : List ℕ) → 64 < length rising → floors_among rising ≡ spread_among rising
among_many rising many = let test : nat_le (length rising) 64 ≡ false = grind (arith, nat_tests) in
    ap (λ b. if b then rising else spread_among rising) test

spread_from : (rising : List ℕ) (a n k : ℕ) → k < n
    → slice_get (map (λ k. slice_index rising (k * length rising / 64)) (range_with_len a n)) k
    ≡ Some (slice_index rising ((a + k) * length rising / 64))
spread_from rising a zero k h = absurd (omega arith)
spread_from rising a (suc n) zero h = let e : a + 0 ≡ a = omega arith in
    ap (λ (z : ℕ). Some (slice_index rising (z * length rising / 64))) (sym e)
spread_from rising a (suc n) (suc k) h = let e : (a + 1) + k ≡ a + suc k = omega arith in
    spread_from rising (a + 1) n k (omega arith) ∙ ap (λ (z : ℕ). Some (slice_index rising (z * length rising / 64))) e

spread_past : (rising : List ℕ) (a n k : ℕ) → n ≤ k
    → slice_get (map (λ k. slice_index rising (k * length rising / 64)) (range_with_len a n)) k ≡ None
spread_past rising a zero k h = refl
spread_past rising a (suc n) zero h = absurd (omega arith)
spread_past rising a (suc n) (suc k) h = spread_past rising (a + 1) n k (omega arith)

pub spread_has : (rising : List ℕ) (k : ℕ) → k < 64
    → slice_get (spread_among rising) k ≡ Some (slice_index rising (k * length rising / 64))
spread_has rising k h = let e : 0 + k ≡ k = omega arith in
    spread_from rising 0 64 k h ∙ ap (λ (z : ℕ). Some (slice_index rising (z * length rising / 64))) e

pub spread_ends : (rising : List ℕ) (k : ℕ) → 64 ≤ k → slice_get (spread_among rising) k ≡ None
spread_ends rising k h = spread_past rising 0 64 k h

pub next_cost : (xs : List ℕ) (i : ℕ) → i < length xs → drop i xs ≡ get_or xs i 0 ∷ drop (i + 1) xs
next_cost [] i h = absurd (omega arith)
next_cost (x ∷ xs) zero h = refl
next_cost (x ∷ xs) (suc i) h = let e : suc i + 1 ≡ suc (i + 1) = omega arith in
    next_cost xs i (omega arith) ∙ ap (λ (z : ℕ). get_or xs i 0 ∷ drop z (x ∷ xs)) (sym e)

pub all_dropped : (xs : List ℕ) (i : ℕ) → length xs ≤ i → drop i xs ≡ []
all_dropped [] zero h = refl
all_dropped [] (suc i) h = refl
all_dropped (x ∷ xs) zero h = absurd (omega arith)
all_dropped (x ∷ xs) (suc i) h = all_dropped xs i (omega arith)

inserted_length : (xs : List ℕ) (c : ℕ) → length (insert_key nat_cmp xs c) ≤ length xs + 1
inserted_length [] c = omega arith
inserted_length (x ∷ xs) c = by (nat_cmp c x) (inserted_length xs c)
  where
    by : (r : Ordering) → length (insert_key nat_cmp xs c) ≤ length xs + 1
        → length (match_ordering r (c ∷ x ∷ xs) (x ∷ xs) (x ∷ insert_key nat_cmp xs c)) ≤ length (x ∷ xs) + 1
    by Less h = omega arith
    by Equal h = omega arith
    by Greater h = omega arith

pub with_length : (rising costs : List ℕ) → length (with_costs rising costs) ≤ length rising + length costs
with_length rising [] = omega arith
with_length rising (c ∷ costs) = let a = inserted_length rising c in
    let b = with_length (insert_key nat_cmp rising c) costs in omega arith

up_to : (a b c : ℕ) → a ≤ b → b ≤ c → a ≤ c
up_to a b c h t = omega arith

no_more : (a b : ℕ) → a ≡ b → a ≤ b
no_more a b e = omega arith

-- there are at most 64
among_length : (rising : List ℕ) → length (floors_among rising) ≤ 64
among_length rising = dite (dec_le (length rising) 64)
    (λ few. subst (λ (l : List ℕ). length l ≤ 64) (sym (among_few rising few)) few)
    (λ many. subst (λ (l : List ℕ). length l ≤ 64) (sym (among_many rising (omega arith)))
    (no_more _ 64 (length-map-range_with_len (λ k. slice_index rising (k * length rising / 64)) 0 64)))

-- there is no floor past the distinct costs, nor past the bands
among_past : (rising : List ℕ) (k : ℕ) → length rising ≤ k → slice_get (floors_among rising) k ≡ None
among_past rising k past = dite (dec_le (length rising) 64)
    (λ few. ap (λ (l : List ℕ). slice_get l k) (among_few rising few) ∙ slice_get_past rising k past)
    (λ many. ap (λ (l : List ℕ). slice_get l k) (among_many rising (omega arith))
    ∙ spread_ends rising k (omega arith))

pub floor_past : (rising : List ℕ) (k : ℕ) → (length rising ≤ k) ⊎ ((k < length rising) × (64 ≤ k))
    → slice_get (floors_among rising) k ≡ None
floor_past rising k past = ⊎_elim (λ (short : length rising ≤ k). among_past rising k short)
    (λ (more : (k < length rising) × (64 ≤ k)).
    slice_get_past (floors_among rising) k (up_to _ 64 k (among_length rising) more.1)) past

pub floors_are : (costs : List ℕ) → floors_of costs ≡ floors_among (distinct_costs costs)
unfolding floors_of
floors_are costs = refl

pub floors_few : (costs : List ℕ) → length (floors_of costs) ≤ 64
floors_few costs =
    subst (λ (l : List ℕ). length l ≤ 64) (sym (floors_are costs)) (among_length (distinct_costs costs))
