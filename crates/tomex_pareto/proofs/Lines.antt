-- Two lines n + q * t and b + q * u: from which q on, or up to which, the first is at most the second.
use Rattle.std.proofs.Common.{◌≡◌, ◌∙◌, ℕ, suc, ◌+◌, ◌-◌, ◌*◌, ◌<◌, ◌≤◌, inl, inr, arith, ap, not, nat_le}
use Rattle.std.proofs.Common.{nat_lt, ◌&&◌, ◌==◌}
use Rattle.std.specs.Prelude.{if◌then◌else◌, max, min}
use Rattle.std.specs.Int.{div_ceil}
use Rattle.std.proofs.lemmas.Bool.{cases_lt, cases_order}
use Rattle.std.proofs.lemmas.Bool.Decides.{nat_tests}
use Rattle.std.proofs.lemmas.Grind.{div_ceil_times}
use Rattle.std.proofs.Math.Nat.{add-mul, mul-add, mul-le-mul_right}

-- a quotient rounded up is at most q exactly if q times the divisor reaches the dividend

ceil_so : (a d q : ℕ) → 0 < d → a ≤ q * d → div_ceil a d ≤ q
ceil_so a d q some low = elim (cases_lt q (div_ceil a d)) [
  | inl l ↦
      let m = mul-le-mul_right d l in
      let e = add-mul q 1 d in
      let w = div_ceil_times a d some in
      absurd (omega (arith, w.1))
  | inr g ↦ g
]

ceil_back : (a d q : ℕ) → 0 < d → div_ceil a d ≤ q → a ≤ q * d
ceil_back a d q some low =
    let m = mul-le-mul_right d low in
    let w = div_ceil_times a d some in
    omega (arith, w.0)

ceil_is : (a d q : ℕ) → 0 < d → nat_le (div_ceil a d) q ≡ nat_le a (q * d)
ceil_is a d q some = grind (arith, nat_tests, ceil_so a d q some, ceil_back a d q some)

split : (q m n : ℕ) → m ≤ n → q * n ≡ q * m + q * (n - m)
split q m n low =
    let e : n ≡ m + (n - m) = omega arith in
    ap (λ (z : ℕ). q * z) e ∙ mul-add q m (n - m)

-- the second line rises faster, and slower

catches_up : (q n b t u : ℕ) → t < u → nat_le (div_ceil (n - b) (u - t)) q ≡ not (nat_lt (b + q * u) (n + q * t))
catches_up q n b t u l =
    let e = split q t u (omega arith) in
    let c = ceil_is (n - b) (u - t) q (omega arith) in
    grind (arith, nat_tests)

falls_behind : (q n b t u : ℕ) → u < t
    → nat_lt q (div_ceil (suc b - n) (t - u)) ≡ not (nat_lt (b + q * u) (n + q * t))
falls_behind q n b t u l =
    let e = split q u t (omega arith) in
    let c = ceil_is (suc b - n) (t - u) q (omega arith) in
    grind (arith, nat_tests)

-- both together, from f on and before g
pub between : (f g q n b t u : ℕ)
    → (nat_le (if nat_lt t u then max f (div_ceil (n - b) (u - t)) else f) q
    && nat_lt q (if nat_lt u t then min g (div_ceil (suc b - n) (t - u)) else if t == u && nat_lt b n then 0 else g))
    ≡ ((nat_le f q && nat_lt q g) && not (nat_lt (b + q * u) (n + q * t)))
between f g q n b t u = elim (cases_order t u) [
  | inl same ↦ let e = ap (λ (z : ℕ). q * z) same in grind (arith, nat_tests)
  | inr (inl l) ↦ let e = catches_up q n b t u l in grind (arith, nat_tests)
  | inr (inr g) ↦ let e = falls_behind q n b t u g in grind (arith, nat_tests)
]
