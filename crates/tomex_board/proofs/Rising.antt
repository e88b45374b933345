-- The floors rise.
use Rattle.std.proofs.Common.{◌≡◌, ℕ, zero, suc, ◌+◌, ◌*◌, ◌/◌, ◌<◌, ◌≤◌, List, [], ◌∷◌, length, get_or, refl, sym, ap}
use Rattle.std.proofs.Common.{subst, arith, slice_index}
use Rattle.std.specs.Ordering.{nat_cmp, match_ordering, MatchOrdering}
use Rattle.std.specs.declared.cmp.Ordering.{Ordering}
use Rattle.std.specs.declared.cmp.Ordering.TheVariants.{Less, Equal, Greater}
use Rattle.std.specs.BTreeSet.{insert_key}
use Rattle.std.proofs.lemmas.Cmp.{ranked}
use Rattle.std.proofs.Math.Nat.{mul-le-mul_right, add-mul}
use Rattle.std.proofs.lemmas.List.FromFn.{length-map-range_with_len, get_or-map-range_with_len}
use mathlib.Core.Logic.{dite}
use native.Mathlib.Decide.{dec_le}
use Rattle.tomex_board.specs.Bands.{with_costs, distinct_costs, floors_among, floors_of}
use Rattle.tomex_board.proofs.Costs.{among_few, among_many, spread_among, floors_are}

abbrev pub Above : ℕ → List ℕ → Type 0
Above c [] = Unit {0}
Above c (x ∷ xs) = (c < x) × Above c xs

abbrev pub Rises : List ℕ → Type 0
Rises [] = Unit {0}
Rises (x ∷ xs) = Above x xs × Rises xs

above_less : (c d : ℕ) (xs : List ℕ) → c < d → Above d xs → Above c xs
above_less c d [] h a = tt
above_less c d (x ∷ xs) h a = (let b = a.0 in omega arith, above_less c d xs h a.1)

inserted_above : (d c : ℕ) (xs : List ℕ) → d < c → Above d xs → Above d (insert_key nat_cmp xs c)
inserted_above d c [] h a = (h, tt)
inserted_above d c (x ∷ xs) h a = by (nat_cmp c x) (inserted_above d c xs h a.1)
  where
    by : (r : Ordering) → Above d (insert_key nat_cmp xs c)
        → Above d (match_ordering r (c ∷ x ∷ xs) (x ∷ xs) (x ∷ insert_key nat_cmp xs c))
    by Less rec = (h, a)
    by Equal rec = a
    by Greater rec = (a.0, rec)

pub inserted_rises : (xs : List ℕ) (c : ℕ) → Rises xs → Rises (insert_key nat_cmp xs c)
inserted_rises [] c t = (tt, tt)
inserted_rises (x ∷ xs) c t = by (nat_cmp c x) (ranked c x (nat_cmp c x) refl) (inserted_rises xs c t.1)
  where
    by : (r : Ordering) → MatchOrdering r (c < x) (c ≡ x) (x < c) → Rises (insert_key nat_cmp xs c)
        → Rises (match_ordering r (c ∷ x ∷ xs) (x ∷ xs) (x ∷ insert_key nat_cmp xs c))
    by Less m rec = ((m, above_less c x xs m t.0), t)
    by Equal m rec = t
    by Greater m rec = (inserted_above x c xs m t.0, rec)

with_rises : (rising costs : List ℕ) → Rises rising → Rises (with_costs rising costs)
with_rises rising [] t = t
with_rises rising (c ∷ costs) t = with_rises (insert_key nat_cmp rising c) costs (inserted_rises rising c t)

pub above_at : (c : ℕ) (xs : List ℕ) (k : ℕ) → Above c xs → k < length xs → c < get_or xs k 0
above_at c [] k a h = absurd (omega arith)
above_at c (x ∷ xs) zero a h = a.0
above_at c (x ∷ xs) (suc k) a h = above_at c xs k a.1 (omega arith)

rises_at : (xs : List ℕ) (j k : ℕ) → Rises xs → j < k → k < length xs → get_or xs j 0 < get_or xs k 0
rises_at [] j k t less h = absurd (omega arith)
rises_at (x ∷ xs) j zero t less h = absurd (omega arith)
rises_at (x ∷ xs) zero (suc k) t less h = above_at x xs k t.0 (omega arith)
rises_at (x ∷ xs) (suc j) (suc k) t less h = rises_at xs j k t.1 (omega arith) (omega arith)

pub distinct_rise : (costs : List ℕ) (j k : ℕ) → j < k → k < length (distinct_costs costs)
    → get_or (distinct_costs costs) j 0 < get_or (distinct_costs costs) k 0
distinct_rise costs j k = rises_at (distinct_costs costs) j k (with_rises [] costs tt)

spread_rises : (xs : List ℕ) (j k : ℕ) → Rises xs → 64 < length xs → j < k → k < 64
    → get_or (spread_among xs) j 0 < get_or (spread_among xs) k 0
spread_rises xs j k t many less h = let m : ℕ = length xs in let f = λ (k : ℕ). slice_index xs (k * m / 64) in
    let a = get_or-map-range_with_len f 0 64 j j 0 (omega arith) (omega arith) in
    let b = get_or-map-range_with_len f 0 64 k k 0 h (omega arith) in
    let jm : ℕ = j * m in let km : ℕ = k * m in let top : ℕ = 63 * m in
    let step : jm + 1 * m ≤ km = subst (λ (z : ℕ). z ≤ km) (add-mul j 1 m) (mul-le-mul_right m (omega arith)) in
    let last : km ≤ top = mul-le-mul_right m (omega arith) in
    let r = rises_at xs (jm / 64) (km / 64) t (omega arith) (omega arith) in omega arith

among_rises : (xs : List ℕ) (j k : ℕ) → Rises xs → j < k → k < length (floors_among xs)
    → get_or (floors_among xs) j 0 < get_or (floors_among xs) k 0
among_rises xs j k t less h = dite (dec_le (length xs) 64)
    (λ few. let e = among_few xs few in let n = ap (λ (l : List ℕ). length l) e in
    subst (λ (l : List ℕ). get_or l j 0 < get_or l k 0) (sym e) (rises_at xs j k t less (omega arith)))
    (λ big. let e = among_many xs (omega arith) in let n = ap (λ (l : List ℕ). length l) e in
    let c = length-map-range_with_len (λ k. slice_index xs (k * length xs / 64)) 0 64 in
    subst (λ (l : List ℕ). get_or l j 0 < get_or l k 0) (sym e)
    (spread_rises xs j k t (omega arith) less (omega arith)))

pub floors_rise : (costs : List ℕ) (j k : ℕ) → j < k → k < length (floors_of costs)
    → get_or (floors_of costs) j 0 < get_or (floors_of costs) k 0
floors_rise costs j k less h = let e = floors_are costs in let n = ap (λ (l : List ℕ). length l) e in
    subst (λ (l : List ℕ). get_or l j 0 < get_or l k 0) (sym e)
    (among_rises (distinct_costs costs) j k (with_rises [] costs tt) less (omega arith))
