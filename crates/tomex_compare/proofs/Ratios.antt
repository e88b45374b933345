-- Ratios, as cycles by cycles: the order by cross products, then by number.
use Rattle.std.proofs.Common.{◌≡◌, ℕ, ◌*◌, ◌<◌, ◌≤◌, ◌⊎◌, inl, inr, arith, max, suc, true, false, ◌≢◌, ◌==◌, nat_lt}
use Rattle.std.proofs.Common.{◌&&◌, ◌||◌, Bool}
use Rattle.std.specs.Cmp.{IsStrictWeakOrder}
use Rattle.std.specs.Ordering.{is_lt, nat_cmp, ordering_then}
use Rattle.std.proofs.Math.Nat.{le_of_mul-le-mul_right, lt_of_mul-lt-mul_right, mul-le-mul_right}
use Rattle.std.proofs.Math.Nat.{mul-lt-mul_of_pos_right}
use Rattle.std.proofs.lemmas.Bool.Decides.{nat_tests}
use Rattle.tomex_compare.specs.Pairs.{goes_before, order_of}
use Rattle.tomex_compare.specs.declared.pairs.Pair.{Pair}

-- a for b is at most c for d, and that at most e for f
pub le_le : (a b c d e f : ℕ) → 0 < d → a * d ≤ c * b → c * f ≤ e * d → a * f ≤ e * b
le_le a b c d e f some p q =
    let x : a * d * f ≤ c * b * f = mul-le-mul_right f p in
    let y : c * f * b ≤ e * d * b = mul-le-mul_right b q in
    let z : a * f * d ≤ e * b * d = omega (arith, x, y) in
    le_of_mul-le-mul_right z some

-- and less if the one is less, or the other
pub lt_le : (a b c d e f : ℕ) → 0 < f → a * d < c * b → c * f ≤ e * d → a * f < e * b
lt_le a b c d e f some p q =
    let x : a * d * f < c * b * f = mul-lt-mul_of_pos_right p some in
    let y : c * f * b ≤ e * d * b = mul-le-mul_right b q in
    let z : a * f * d < e * b * d = omega (arith, x, y) in
    lt_of_mul-lt-mul_right d z

pub le_lt : (a b c d e f : ℕ) → 0 < b → a * d ≤ c * b → c * f < e * d → a * f < e * b
le_lt a b c d e f some p q =
    let x : a * d * f ≤ c * b * f = mul-le-mul_right f p in
    let y : c * f * b < e * d * b = mul-lt-mul_of_pos_right q some in
    let z : a * f * d < e * b * d = omega (arith, x, y) in
    lt_of_mul-lt-mul_right d z

-- a for b is no greater than c for d, and at equal ratios m no greater than n
abbrev pub NoLater : (a b m c d n : ℕ) → Type 0
NoLater a b m c d n = (a * d < c * b) ⊎ ((a * d ≡ c * b) × (m ≤ n))

pub no_later_chain : (a b m c d n e f o : ℕ) → 0 < b → 0 < d → 0 < f → NoLater a b m c d n → NoLater c d n e f o
    → NoLater a b m e f o
no_later_chain a b m c d n e f o pb pd pf (inl p) (inl q) = inl (lt_le a b c d e f pf p (omega (arith, q)))
no_later_chain a b m c d n e f o pb pd pf (inl p) (inr q) =
    let w : c * f ≡ e * d = q.0 in inl (lt_le a b c d e f pf p (omega arith))
no_later_chain a b m c d n e f o pb pd pf (inr p) (inl q) =
    let w : a * d ≡ c * b = p.0 in inl (le_lt a b c d e f pb (omega arith) q)
no_later_chain a b m c d n e f o pb pd pf (inr p) (inr q) =
    let v : a * d ≡ c * b = p.0 in
    let w : c * f ≡ e * d = q.0 in
    let x : a * f ≤ e * b = le_le a b c d e f pd (omega arith) (omega arith) in
    let y : e * b ≤ a * f = le_le e f c d a b pd (omega arith) (omega arith) in
    let i : m ≤ n = p.1 in
    let j : n ≤ o = q.1 in
    inr ((let z : a * f ≡ e * b = omega arith in z), omega arith)

-- neither of two pairs is first if the other is no later
no_first : (p q m n : ℕ) → is_lt (ordering_then (nat_cmp p q) (nat_cmp m n)) ≡ false → (q < p) ⊎ ((q ≡ p) × (n ≤ m))
no_first p q m n e = grind (arith, nat_tests)

is_first : (p q m n : ℕ) → (q < p) ⊎ ((q ≡ p) × (n ≤ m)) → is_lt (ordering_then (nat_cmp p q) (nat_cmp m n)) ≡ false
is_first p q m n e = grind (arith, nat_tests)

first_one_way : (p q m n : ℕ) → is_lt (ordering_then (nat_cmp p q) (nat_cmp m n)) ≡ true
    → is_lt (ordering_then (nat_cmp q p) (nat_cmp n m)) ≡ false
first_one_way p q m n e = grind (arith, nat_tests)

-- the order of any two pairs
abbrev pub precedes : Pair → Pair → Bool
precedes a b = is_lt (order_of a b)

pub precedes_ranks : IsStrictWeakOrder precedes
precedes_ranks = record {
  one_way = λ x y e. first_one_way (x.new * max y.old 1) (y.new * max x.old 1) x.row y.row e;
  chain = λ x y z e f.
      let p = no_first (x.new * max y.old 1) (y.new * max x.old 1) x.row y.row e in
      let q = no_first (y.new * max z.old 1) (z.new * max y.old 1) y.row z.row f in
      is_first (x.new * max z.old 1) (z.new * max x.old 1) x.row z.row
      (no_later_chain z.new (max z.old 1) z.row y.new (max y.old 1) y.row x.new (max x.old 1) x.row
      (omega arith) (omega arith) (omega arith) q p);
}

-- of pairs that have ratios

max_one : (n : ℕ) → 1 ≤ n → max n 1 ≡ n
max_one n some = omega arith

-- one that isn't preceded by a later one with another number goes before it
pub not_preceded : (a b : Pair) → 1 ≤ a.old → 1 ≤ b.old → a.row ≢ b.row → precedes b a ≡ false
    → goes_before a b ≡ true
not_preceded a b pa pb apart e =
    let f = rw (max_one a.old pa, max_one b.old pb) at e in
    first_else (b.new * a.old) (a.new * b.old) b.row a.row apart f
  where
    first_else : (p q m n : ℕ) → n ≢ m → is_lt (ordering_then (nat_cmp p q) (nat_cmp m n)) ≡ false
        → (nat_lt q p || (q == p && nat_lt n m)) ≡ true
    first_else p q m n apart e = grind (arith, nat_tests)

pub goes_one_way : (a b : Pair) → goes_before a b ≡ true → goes_before b a ≡ true → ⊥
goes_one_way a b e f = both (a.new * b.old) (b.new * a.old) a.row b.row e f
  where
    both : (p q m n : ℕ) → (nat_lt p q || (p == q && nat_lt m n)) ≡ true → (nat_lt q p || (q == p && nat_lt n m)) ≡ true
        → ⊥
    both p q m n e f = grind (arith, nat_tests)

pub goes_else : (a b : Pair) → a.row ≢ b.row → goes_before a b ≡ false → goes_before b a ≡ true
goes_else a b apart e = other (a.new * b.old) (b.new * a.old) a.row b.row apart e
  where
    other : (p q m n : ℕ) → m ≢ n → (nat_lt p q || (p == q && nat_lt m n)) ≡ false
        → (nat_lt q p || (q == p && nat_lt n m)) ≡ true
    other p q m n apart e = grind (arith, nat_tests)

goes_is : (p q m n : ℕ) → (nat_lt p q || (p == q && nat_lt m n)) ≡ true → (p < q) ⊎ ((p ≡ q) × (suc m ≤ n))
goes_is p q m n e = grind (arith, nat_tests)

goes_so : (p q m n : ℕ) → (p < q) ⊎ ((p ≡ q) × (suc m ≤ n)) → (nat_lt p q || (p == q && nat_lt m n)) ≡ true
goes_so p q m n e = grind (arith, nat_tests)

weaker : (a b m c d n : ℕ) → (a * d < c * b) ⊎ ((a * d ≡ c * b) × (suc m ≤ n)) → NoLater a b m c d n
weaker a b m c d n (inl p) = inl p
weaker a b m c d n (inr p) = let l : suc m ≤ n = p.1 in inr (p.0, omega arith)

pub goes_chain : (a b c : Pair) → 1 ≤ a.old → 1 ≤ b.old → 1 ≤ c.old → goes_before a b ≡ true → goes_before b c ≡ true
    → goes_before a c ≡ true
goes_chain a b c pa pb pc e f =
    goes_so (a.new * c.old) (c.new * a.old) a.row c.row
    (no_later_chain a.new a.old (suc a.row) b.new b.old b.row c.new c.old c.row (omega arith) (omega arith)
    (omega arith)
    (goes_is (a.new * b.old) (b.new * a.old) a.row b.row e)
    (weaker b.new b.old b.row c.new c.old c.row (goes_is (b.new * c.old) (c.new * b.old) b.row c.row f)))
