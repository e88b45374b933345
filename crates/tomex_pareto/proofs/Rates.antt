-- Rates, as cycles for some cost: of three, what two comparisons say of the third.
use Rattle.std.proofs.Common.{◌≡◌, ℕ, ◌*◌, ◌-◌, ◌<◌, ◌≤◌, arith, true, false}
use Rattle.std.proofs.Math.Nat.{lt_of_mul-lt-mul_right, mul-le-mul_right, mul-lt-mul_of_pos_right}
use Rattle.std.proofs.lemmas.Bool.Decides.{nat_tests}
use Rattle.tomex_pareto.specs.declared.front_row.FrontRow.{FrontRow}
use Rattle.tomex_pareto.specs.Hull.{is_flatter}

-- a for b is at most c for d, and that less than e for f
le_lt : (a b c d e f : ℕ) → 0 < b → a * d ≤ c * b → c * f < e * d → a * f < e * b
le_lt a b c d e f pb p q =
    let x : a * d * f ≤ c * b * f = mul-le-mul_right f p in
    let y : c * f * b < e * d * b = mul-lt-mul_of_pos_right q pb in
    lt_of_mul-lt-mul_right d (omega (arith, x, y))

-- a for b is less than c for d, and that at most e for f
lt_le : (a b c d e f : ℕ) → 0 < f → a * d < c * b → c * f ≤ e * d → a * f < e * b
lt_le a b c d e f pf p q =
    let x : a * d * f < c * b * f = mul-lt-mul_of_pos_right p pf in
    let y : c * f * b ≤ e * d * b = mul-le-mul_right b q in
    lt_of_mul-lt-mul_right d (omega (arith, x, y))

-- the step from a to b is at most as steep as that from c to d, and that flatter than the one from e to f
pub flat_below : (a b c d e f : FrontRow) → a.cost < b.cost → is_flatter c d a b ≡ false → is_flatter c d e f ≡ true
    → is_flatter a b e f ≡ true
flat_below a b c d e f up p q =
    let x : (a.cycles - b.cycles) * (d.cost - c.cost) ≤ (c.cycles - d.cycles) * (b.cost - a.cost) =
    grind (arith, nat_tests) in
    let y : (c.cycles - d.cycles) * (f.cost - e.cost) < (e.cycles - f.cycles) * (d.cost - c.cost) =
    grind (arith, nat_tests) in
    let z = le_lt _ _ _ _ _ _ (let z : 0 < b.cost - a.cost = omega arith in z) x y in
    grind (arith, nat_tests)

-- the step from a to b is flatter than that from c to d, and that at most as steep as the one from e to f
pub below_flat : (a b c d e f : FrontRow) → e.cost < f.cost → is_flatter a b c d ≡ true → is_flatter e f c d ≡ false
    → is_flatter a b e f ≡ true
below_flat a b c d e f up p q =
    let x : (a.cycles - b.cycles) * (d.cost - c.cost) < (c.cycles - d.cycles) * (b.cost - a.cost) =
    grind (arith, nat_tests) in
    let y : (c.cycles - d.cycles) * (f.cost - e.cost) ≤ (e.cycles - f.cycles) * (d.cost - c.cost) =
    grind (arith, nat_tests) in
    let z = lt_le _ _ _ _ _ _ (let z : 0 < f.cost - e.cost = omega arith in z) x y in
    grind (arith, nat_tests)

-- of two steps only one is flatter
pub not_both : (a b c d : FrontRow) → is_flatter a b c d ≡ true → is_flatter c d a b ≡ false
not_both a b c d p = grind (arith, nat_tests)
