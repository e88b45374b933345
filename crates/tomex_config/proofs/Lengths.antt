-- The product of the axes' lengths, with a length of 0 and without.
use Rattle.std.proofs.Common.{◌≡◌, ◌≢◌, ◌==◌, ◌+◌, ◌*◌, ◌<◌, ◌≤◌, ◌∙◌, ℕ, suc, true, false, List, [], ◌∷◌}
use Rattle.std.proofs.Common.{length, get_or, drop, nat_lt, refl, ap, arith, drop-cons, inl, inr}
use Rattle.std.proofs.Math.Nat.{mul-le-mul_left, mul-le-mul}
use Rattle.std.proofs.lemmas.Bool.{false≢true, cases_Bool, eqb-true, eqb-false, or_parts}
use Rattle.std.proofs.lemmas.Bool.Decides.{nat_tests}
use Rattle.tomex_config.specs.Grid.{product, has_zero}

product-zero : (ns : List ℕ) → has_zero ns ≡ true → product ns ≡ 0
product-zero [] h = absurd (false≢true h)
product-zero (n ∷ ns) h = elim (cases_Bool (n == 0)) [
  | inl e ↦ (let none : n ≡ 0 = eqb-true n 0 e in rw none omega arith)
  | inr e ↦ (let rest : has_zero ns ≡ true = rw e at h in rw (product-zero ns rest) omega arith)
]

pub zero_is_small : (ns : List ℕ) → has_zero ns ≡ true → nat_lt 16384 (product ns) ≡ false
zero_is_small ns h = rw (product-zero ns h) refl

pub product_positive : (ns : List ℕ) → has_zero ns ≡ false → 1 ≤ product ns
product_positive [] h = omega arith
product_positive (n ∷ ns) h =
    let (head, rest) = or_parts (n == 0) (has_zero ns) h in
    let some : n ≢ 0 = eqb-false n 0 head in
    let one : 1 ≤ n = omega (arith, some) in
    omega (arith, mul-le-mul one (product_positive ns rest))

-- what is known about the i-th length and those after it, with `rows` configurations from the lengths before
pub record Splits (rows i : ℕ) (ns : List ℕ) : Type 0 where
  pub positive : 1 ≤ get_or ns i 0
  pub rest : has_zero (drop (i + 1) ns) ≡ false
  pub whole : rows * get_or ns i 0 * product (drop (i + 1) ns) ≡ product ns

pub splits : (rows i : ℕ) (ns : List ℕ) → i < length ns → has_zero (drop i ns) ≡ false
    → rows * product (drop i ns) ≡ product ns → Splits rows i ns
splits rows i ns lt none whole =
    let next_is : suc i ≡ i + 1 = omega arith in
    let cons : drop i ns ≡ get_or ns i 0 ∷ drop (i + 1) ns =
    drop-cons ns i 0 lt ∙ ap (λ k. get_or ns i 0 ∷ drop k ns) next_is in
    let h = rw cons at none in
    let (head, rest) = or_parts (get_or ns i 0 == 0) (has_zero (drop (i + 1) ns)) h in
    let some : get_or ns i 0 ≢ 0 = eqb-false (get_or ns i 0) 0 head in
    let product_is : product (drop i ns) ≡ get_or ns i 0 * product (drop (i + 1) ns) = ap product cons in
    record { positive = omega (arith, some); rest = rest; whole = omega (arith, whole, ap (λ p. rows * p) product_is) }

-- too many configurations stay too many with the remaining lengths
pub too_many : (rows n rest whole : ℕ) → 1 ≤ rest → 16384 < rows * n → rows * n * rest ≡ whole
    → true ≡ nat_lt 16384 whole
too_many rows n rest whole positive above product_is =
    let some : rows * n * 1 ≤ rows * n * rest = mul-le-mul_left (rows * n) positive in
    let lt : 16384 < whole = omega (arith, some, product_is) in
    grind (arith, nat_tests)
