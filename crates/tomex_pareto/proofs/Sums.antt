-- What a row costs where q cycles are worth p of cost, as numbers.
use Rattle.std.proofs.Common.{◌≡◌, ◌⊎◌, ℕ, ◌+◌, ◌*◌, ◌-◌, ◌<◌, ◌≤◌, arith, inl, inr, true, subst}
use Rattle.std.proofs.Math.Nat.{mul-le-mul_left, mul-le-mul_right, mul-lt-mul_of_pos_right}
use Rattle.std.proofs.lemmas.Bool.{cases_lt}
use Rattle.std.proofs.lemmas.Bool.Decides.{nat_tests}
use Rattle.tomex_pareto.specs.declared.front_row.FrontRow.{FrontRow}
use Rattle.tomex_pareto.specs.Pareto.{Dominates}
use Rattle.tomex_pareto.specs.Hull.{lies_above}

abbrev pub sum_for : ℕ → ℕ → FrontRow → ℕ
sum_for p q r = q * r.cost + p * r.cycles

pub smaller : (p q : ℕ) (a b : FrontRow) → 1 ≤ p → 1 ≤ q → Dominates a b → sum_for p q a < sum_for p q b
smaller p q a b pp pq w =
    let c = mul-le-mul_left q w.cost in
    let y = mul-le-mul_left p w.cycles in
    elim w.less [
      | inl l ↦
          let z : a.cost * q < b.cost * q = mul-lt-mul_of_pos_right l (let z : 0 < q = omega arith in z) in
          omega (arith, z, y)
      | inr l ↦
          let z : a.cycles * p < b.cycles * p = mul-lt-mul_of_pos_right l (let z : 0 < p = omega arith in z) in
          omega (arith, z, c)
    ]

-- a row that is cheaper by d and has no smaller sum takes at least d's worth of cycles more
worth_before : (p q c d y z e : ℕ) → z ≤ y + e → q * (c + d) + p * y ≤ q * c + p * z → q * d ≤ p * e
worth_before p q c d y z e l s = let w : p * z ≤ p * (y + e) = mul-le-mul_left p l in omega (arith, w, s)

-- a row that is costlier by d and has no smaller sum saves at most d's worth of cycles
worth_after : (p q c d y z e : ℕ) → (y ≡ z + e) ⊎ (e ≡ 0) → q * c + p * y ≤ q * (c + d) + p * z → p * e ≤ q * d
worth_after p q c d y z e (inl i) s =
    let s' : q * c + p * (z + e) ≤ q * (c + d) + p * z = rw i at s in omega (arith, s')
worth_after p q c d y z e (inr i) s = rw i (omega arith)

no_line : (p q a c b d : ℕ) → 1 ≤ p → q * c ≤ p * a → p * b ≤ q * d → a * d < b * c → ⊥
no_line p q a c b d pp x y z =
    let u = mul-le-mul_right d x in
    let v = mul-le-mul_right c y in
    let w : a * d * p < b * c * p = mul-lt-mul_of_pos_right z (let z : 0 < p = omega arith in z) in
    omega (arith, u, v, w)

difference : (y z : ℕ) → (y ≡ z + (y - z)) ⊎ (y - z ≡ 0)
difference y z = elim (cases_lt y z) [ inl l ↦ inr (omega arith) | inr l ↦ inl (omega arith) ]

-- of two rows and one above their line one has a smaller sum than it
pub not_above : (p q : ℕ) (a b r : FrontRow) → 1 ≤ p → sum_for p q r ≤ sum_for p q a → sum_for p q r ≤ sum_for p q b
    → lies_above a b r ≡ true → ⊥
not_above p q a b r pp sa sb e =
    let up : a.cost < r.cost = grind (arith, nat_tests) in
    let on : r.cost < b.cost = grind (arith, nat_tests) in
    let flat : (a.cycles - r.cycles) * (b.cost - r.cost) < (r.cycles - b.cycles) * (r.cost - a.cost) =
    grind (arith, nat_tests) in
    let c : r.cost ≡ a.cost + (r.cost - a.cost) = omega arith in
    let d : b.cost ≡ r.cost + (b.cost - r.cost) = omega arith in
    let x = worth_before p q a.cost (r.cost - a.cost) r.cycles a.cycles (a.cycles - r.cycles) (omega arith)
    (subst (λ (n : ℕ). q * n + p * r.cycles ≤ q * a.cost + p * a.cycles) c sa) in
    let y = worth_after p q r.cost (b.cost - r.cost) r.cycles b.cycles (r.cycles - b.cycles)
    (difference r.cycles b.cycles) (subst (λ (n : ℕ). q * r.cost + p * r.cycles ≤ q * n + p * b.cycles) d sb) in
    no_line p q _ _ _ _ pp x y flat
