-- The medians of an odd number of pairs, either way round.
use Rattle.std.proofs.Common.{◌≡◌, ◌∙◌, arith, inl, inr, refl, sym, ℕ, suc, ◌+◌, ◌*◌, ◌<◌, ◌≤◌, Bool, true}
use Rattle.std.proofs.Common.{cond, not, nat_lt, List, [], ◌∷◌, length, Some}
use Rattle.std.specs.Prelude.{count_by, map}
use Rattle.std.specs.List.{AllByRecursion}
use Rattle.std.proofs.lemmas.Bool.{cases_Bool}
use Rattle.std.proofs.lemmas.Bool.Decides.{nat_tests}
use Rattle.tomex_study.specs.Program.{Workload}
use Rattle.tomex_study.specs.Study.{DesignSpace}
use Rattle.tomex_compare.specs.GroupTable.{median}
use Rattle.tomex_compare.specs.Laws.{AreBuilds, TurnedMediansAreInverse, chosen}
use Rattle.tomex_compare.specs.Pairs.{by_ratio, has_less, pair_at, pairs_of, row_numbers}
use Rattle.tomex_compare.specs.declared.pairs.Pair.{Pair}
use Rattle.tomex_compare.proofs.Chosen.{bound_ratios, count_turned}
use Rattle.tomex_compare.proofs.ByRatio.{by_ratio_moves}
use Rattle.tomex_compare.proofs.Comparable.{all_in_range, some_on_row}
use Rattle.tomex_compare.proofs.Counts.{count_by-cons}
use Rattle.tomex_compare.proofs.Ratios.{le_le}
use Rattle.tomex_compare.proofs.Sorting.{Has, all_has, all_moved, kept_has}
use Rattle.tomex_compare.proofs.Turned.{turned}

-- an item that passes both of two tests
record Both {X : Type 0} (p q : X → Bool) (xs : List X) : Type 0 where
  item : X
  has : Has xs item
  first : p item ≡ true
  second : q item ≡ true

-- if more pass than there are items
overlap : {X : Type 0} (p q : X → Bool) (xs : List X) → length xs < count_by p xs + count_by q xs → Both p q xs
overlap p q [] more = absurd (omega (arith, more))
overlap p q (x ∷ xs) more = elim (cases_Bool (p x)) [
  | inl one ↦ elim (cases_Bool (q x)) [
    | inl two ↦ record { item = x; has = inl refl; first = one; second = two }
    | inr lone ↦ later (overlap p q xs (tests 1 0 (rw one refl) (rw lone refl) (omega arith)))
  ]
  | inr neither ↦ elim (cases_Bool (q x)) [
    | inl two ↦ later (overlap p q xs (tests 0 1 (rw neither refl) (rw two refl) (omega arith)))
    | inr none ↦ later (overlap p q xs (tests 0 0 (rw neither refl) (rw none refl) (omega arith)))
  ]
]
  where
    later : Both p q xs → Both p q (x ∷ xs)
    later b = record { item = b.item; has = inr b.has; first = b.first; second = b.second }

    sums : (n i j a b k l v w : ℕ) → suc n < i + j → i ≡ a + k → j ≡ b + l → a ≡ v → b ≡ w → v + w ≤ 1
        → n < k + l
    sums n i j a b k l v w m c d e f few = omega (arith, m, c, d, e, f, few)

    tests : (a b : ℕ) → cond (p x) 1 0 ≡ a → cond (q x) 1 0 ≡ b → a + b ≤ 1
        → length xs < count_by p xs + count_by q xs
    tests a b is_a is_b few =
        let c = count_by-cons p x xs in
        let d = count_by-cons q x xs in
        sums (length xs) (count_by p (x ∷ xs)) (count_by q (x ∷ xs)) _ _ (count_by p xs) (count_by q xs) a b
        more c d is_a is_b few

count_all : {X : Type 0} (xs : List X) → count_by (λ x. true) xs ≡ length xs
count_all [] = refl
count_all {X} (x ∷ xs) =
    let one = count_by-cons {X = X} (λ y. true) x xs in
    let rest = count_all xs in
    omega (arith, one, rest)

-- both programs take a cycle at least on each row
abbrev TakeCycles : Pair → Type 0
TakeCycles p = (1 ≤ p.old) × (1 ≤ p.new)

all_take_cycles : (s : DesignSpace) (old new : Workload) → AreBuilds s old new
    → AllByRecursion TakeCycles (pairs_of s old new)
unfolding pairs_of
all_take_cycles s old new are =
    let unsorted = map (pair_at s old new) (row_numbers s) in
    all_moved TakeCycles unsorted (by_ratio unsorted) (by_ratio_moves unsorted)
    (all_in_range TakeCycles (pair_at s old new) 0 (length s.rows)
    (λ k l m. (
      some_on_row s old k are.study are.old_one (omega (arith, m)),
      some_on_row s new k are.study are.new_one (omega (arith, m)),
    )))

take_cycles : (s : DesignSpace) (old new : Workload) (keeps : ℕ → Bool) (p : Pair) → AreBuilds s old new
    → Has (chosen keeps s old new) p → TakeCycles p
take_cycles s old new keeps p are has =
    all_has TakeCycles (pairs_of s old new) p (all_take_cycles s old new are)
    (kept_has (λ q. keeps q.row) (pairs_of s old new) p has).0

-- two halves of an odd number share one
halves : (n a b k : ℕ) → n ≡ 1 + 2 * k → n ≤ 2 * a → n ≤ 2 * b → n < a + b
halves n a b k odd p q = omega (arith, odd, p, q)

no_less : (a b : ℕ) → not (nat_lt a b) ≡ true → b ≤ a
no_less a b e = grind (arith, nat_tests)

-- p is no greater than n, and no less than the inverse of m
under : (pn po mn mo nn nd : ℕ) → 1 ≤ po → not (nat_lt (nn * po) (pn * nd)) ≡ true
    → not (nat_lt (mn * pn) (po * mo)) ≡ true → mo * nd ≤ nn * mn
under pn po mn mo nn nd some first second =
    let x : pn * nd ≤ nn * po = no_less (nn * po) (pn * nd) first in
    let y : po * mo ≤ mn * pn = no_less (mn * pn) (po * mo) second in
    le_le mo mn pn po nn nd some (omega (arith, y)) x

-- p is no less than n, and no greater than the inverse of m
over : (pn po mn mo nn nd : ℕ) → 1 ≤ pn → not (nat_lt (pn * nd) (nn * po)) ≡ true
    → not (nat_lt (po * mo) (mn * pn)) ≡ true → mn * nn ≤ nd * mo
over pn po mn mo nn nd some first second =
    let x : nn * po ≤ pn * nd = no_less (pn * nd) (nn * po) first in
    let y : mn * pn ≤ po * mo = no_less (po * mo) (mn * pn) second in
    le_le mn mo po pn nd nn some y (omega (arith, x))

module _ (s : DesignSpace) (old new : Workload) (keeps : ℕ → Bool) (k : ℕ) (m n : Pair) (are : AreBuilds s old new)
    (odd : length (chosen keeps s old new) ≡ 1 + 2 * k) (back : median (chosen keeps s new old) ≡ Some m)
    (there : median (chosen keeps s old new) ≡ Some n) where
  abbrev ps : List Pair
  ps = chosen keeps s old new

  abbrev qs : List Pair
  qs = chosen keeps s new old

  turned_builds : AreBuilds s new old
  turned_builds = record { study = are.study; old_one = are.new_one; new_one = are.old_one }

  same_length : length qs ≡ length ps
  same_length =
      sym (count_all qs) ∙ (count_turned s old new keeps (λ p. true) ∙ count_all ps)

  -- at least half are no greater than the median, and no less than the other way round
  at_most : length ps ≤ 2 * count_by (λ p. not (has_less n p)) ps
  at_most = (bound_ratios s old new keeps are).at_most n there

  at_least : length ps ≤ 2 * count_by (λ p. not (has_less p n)) ps
  at_least = (bound_ratios s old new keeps are).at_least n there

  turned_at_most : length ps ≤ 2 * count_by (λ p. not (has_less m (turned p))) ps
  turned_at_most =
      let half = (bound_ratios s new old keeps turned_builds).at_most m back in
      let same = same_length in
      let count = count_turned s old new keeps (λ p. not (has_less m p)) in
      omega (arith, half, same, count)

  turned_at_least : length ps ≤ 2 * count_by (λ p. not (has_less (turned p) m)) ps
  turned_at_least =
      let half = (bound_ratios s new old keeps turned_builds).at_least m back in
      let same = same_length in
      let count = count_turned s old new keeps (λ p. not (has_less p m)) in
      omega (arith, half, same, count)

  -- one is no greater than this median and no less than the inverse of the other one
  below : m.old * n.old ≤ n.new * m.new
  below =
      let b = overlap (λ p. not (has_less n p)) (λ p. not (has_less m (turned p))) ps
      (halves (length ps) _ _ k odd at_most turned_at_most) in
      let p = b.item in
      let some : TakeCycles p = take_cycles s old new keeps p are b.has in
      under p.new p.old m.new m.old n.new n.old some.0 b.first b.second

  -- and one the other way round
  above : m.new * n.new ≤ n.old * m.old
  above =
      let b = overlap (λ p. not (has_less p n)) (λ p. not (has_less (turned p) m)) ps
      (halves (length ps) _ _ k odd at_least turned_at_least) in
      let p = b.item in
      let some : TakeCycles p = take_cycles s old new keeps p are b.has in
      over p.new p.old m.new m.old n.new n.old some.1 b.first b.second

  inverse : m.new * n.new ≡ m.old * n.old
  inverse = let x = below in let y = above in omega (arith, x, y)

pub turned_medians_are_inverse : TurnedMediansAreInverse
turned_medians_are_inverse = inverse
