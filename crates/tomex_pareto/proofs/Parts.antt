-- What two rows have at factors of the amounts of parts, compared with how they differ.
use Rattle.std.proofs.Common.{◌≡◌, ◌+◌, ◌-◌, ◌*◌, ◌≤◌, inl, inr, ℕ, ap, arith}
use Rattle.std.proofs.Common.{refl, sym, subst, cond, List, [], ◌∷◌, ◌∙◌}
use Rattle.std.specs.Prelude.{nat_lt, sum_by}
use Rattle.std.specs.Int.{abs_diff}
use Rattle.std.proofs.lemmas.Bool.{cases_Bool, cases_lt, le-ltb, lt-ltb}
use Rattle.std.proofs.lemmas.List.Sums.{sum_by-cons}
use Rattle.std.proofs.Math.Nat.{add-mul, mul-add, mul-le-mul_left, mul-le-mul_right}
use Rattle.tomex_pareto.specs.Percent.{AreWithin}

-- one part: f is its factor, s its amount, a and b how often the row and a rival have it

-- the difference that the part makes changes by at most e percent of it
abbrev pub Apart : (f s a b e : ℕ) → Type 0
Apart f s a b e = f * (s * a) + 100 * (s * b) ≤ f * (s * b) + 100 * (s * a) + e * (s * abs_diff a b)

row_more : (f s b d e : ℕ) → f ≤ 100 + e
    → f * (s * (b + d)) + 100 * (s * b) ≤ f * (s * b) + 100 * (s * (b + d)) + e * (s * d)
row_more f s b d e few =
    let x : s * (b + d) ≡ s * b + s * d = mul-add s b d in
    let y : f * (s * b + s * d) ≡ f * (s * b) + f * (s * d) = mul-add f (s * b) (s * d) in
    let z : 100 * (s * b + s * d) ≡ 100 * (s * b) + 100 * (s * d) = mul-add 100 (s * b) (s * d) in
    let high : f * (s * d) ≤ (100 + e) * (s * d) = mul-le-mul_right (s * d) few in
    let both : (100 + e) * (s * d) ≡ 100 * (s * d) + e * (s * d) = add-mul 100 e (s * d) in
    rw (x, y, z) (omega (arith, high, both))

rival_more : (f s a d e : ℕ) → 100 ≤ f + e
    → f * (s * a) + 100 * (s * (a + d)) ≤ f * (s * (a + d)) + 100 * (s * a) + e * (s * d)
rival_more f s a d e few =
    let x : s * (a + d) ≡ s * a + s * d = mul-add s a d in
    let y : f * (s * a + s * d) ≡ f * (s * a) + f * (s * d) = mul-add f (s * a) (s * d) in
    let z : 100 * (s * a + s * d) ≡ 100 * (s * a) + 100 * (s * d) = mul-add 100 (s * a) (s * d) in
    let high : 100 * (s * d) ≤ (f + e) * (s * d) = mul-le-mul_right (s * d) few in
    let both : (f + e) * (s * d) ≡ f * (s * d) + e * (s * d) = add-mul f e (s * d) in
    rw (x, y, z) (omega (arith, high, both))

part_apart : (f s a b e : ℕ) → 100 ≤ f + e → f ≤ 100 + e → Apart f s a b e
part_apart f s a b e low high = elim (cases_lt a b) [
  | inl l ↦
      let is : b ≡ a + (b - a) = omega arith in
      let d : abs_diff a b ≡ b - a = omega arith in
      let m = rival_more f s a (b - a) e low in
      subst (λ (n : ℕ). f * (s * a) + 100 * (s * n) ≤ f * (s * n) + 100 * (s * a) + e * (s * abs_diff a b)) (sym is)
      (rw d m)
  | inr g ↦
      let is : a ≡ b + (a - b) = omega arith in
      let d : abs_diff a b ≡ a - b = omega arith in
      let m = row_more f s b (a - b) e high in
      subst (λ (n : ℕ). f * (s * n) + 100 * (s * b) ≤ f * (s * b) + 100 * (s * n) + e * (s * abs_diff a b)) (sym is)
      (rw d m)
]

-- and by exactly e percent if the factor is the worst for the row

worst_row : (s b d e : ℕ)
    → (100 + e) * (s * (b + d)) + 100 * (s * b) ≡ (100 + e) * (s * b) + 100 * (s * (b + d)) + e * (s * d)
worst_row s b d e =
    let x : s * (b + d) ≡ s * b + s * d = mul-add s b d in
    let y : (100 + e) * (s * b + s * d) ≡ (100 + e) * (s * b) + (100 + e) * (s * d) =
    mul-add (100 + e) (s * b) (s * d) in
    let z : 100 * (s * b + s * d) ≡ 100 * (s * b) + 100 * (s * d) = mul-add 100 (s * b) (s * d) in
    let both : (100 + e) * (s * d) ≡ 100 * (s * d) + e * (s * d) = add-mul 100 e (s * d) in
    rw (x, y, z) (omega (arith, both))

worst_rival : (f s a d e : ℕ) → f + e ≡ 100
    → f * (s * a) + 100 * (s * (a + d)) ≡ f * (s * (a + d)) + 100 * (s * a) + e * (s * d)
worst_rival f s a d e is =
    let x : s * (a + d) ≡ s * a + s * d = mul-add s a d in
    let y : f * (s * a + s * d) ≡ f * (s * a) + f * (s * d) = mul-add f (s * a) (s * d) in
    let z : 100 * (s * a + s * d) ≡ 100 * (s * a) + 100 * (s * d) = mul-add 100 (s * a) (s * d) in
    let whole : (f + e) * (s * d) ≡ 100 * (s * d) = ap (λ (n : ℕ). n * (s * d)) is in
    let both : (f + e) * (s * d) ≡ f * (s * d) + e * (s * d) = add-mul f e (s * d) in
    rw (x, y, z) (omega (arith, whole, both))

abbrev IsApart : (f s a b e : ℕ) → Type 0
IsApart f s a b e = f * (s * a) + 100 * (s * b) ≡ f * (s * b) + 100 * (s * a) + e * (s * abs_diff a b)

worst_apart : (s a b e : ℕ) → e ≤ 100 → IsApart (cond (nat_lt b a) (100 + e) (100 - e)) s a b e
worst_apart s a b e few = elim (cases_lt b a) [
  | inl l ↦
      let is : a ≡ b + (a - b) = omega arith in
      let d : abs_diff a b ≡ a - b = omega arith in
      let m = worst_row s b (a - b) e in
      rw (lt-ltb b a l) (subst (λ (n : ℕ). (100 + e) * (s * n) + 100 * (s * b)
      ≡ (100 + e) * (s * b) + 100 * (s * n) + e * (s * abs_diff a b)) (sym is) (rw d m))
  | inr g ↦
      let is : b ≡ a + (b - a) = omega arith in
      let d : abs_diff a b ≡ b - a = omega arith in
      let m = worst_rival (100 - e) s a (b - a) e (omega (arith, few)) in
      rw (le-ltb b a g) (subst (λ (n : ℕ). (100 - e) * (s * a) + 100 * (s * n)
      ≡ (100 - e) * (s * n) + 100 * (s * a) + e * (s * abs_diff a b)) (sym is) (rw d m))
]

-- all parts

module _ {P R : Type 0} (amount : P → ℕ) (times : P → R → ℕ) (a b : R) where
  abbrev pub share : R → P → ℕ
  share r p = amount p * times p r

  abbrev pub at_factors : (P → ℕ) → R → P → ℕ
  at_factors factors r p = factors p * (amount p * times p r)

  abbrev pub differs : P → ℕ
  differs p = amount p * abs_diff (times p a) (times p b)

  -- the factors that are worst for the row against the rival
  abbrev pub worst : ℕ → P → ℕ
  worst e p = cond (nat_lt (times p b) (times p a)) (100 + e) (100 - e)

  pub worst_within : (e : ℕ) → e ≤ 100 → AreWithin e (worst e)
  worst_within e few p = elim (cases_Bool (nat_lt (times p b) (times p a))) [
    | inl holds ↦ rw holds (omega arith, omega arith)
    | inr fails ↦ rw fails (omega (arith, few), omega arith)
  ]

  pub sums_apart : (factors : P → ℕ) (all : List P) (e : ℕ) → AreWithin e factors
      → sum_by (at_factors factors a) all + 100 * sum_by (share b) all
      ≤ sum_by (at_factors factors b) all + 100 * sum_by (share a) all + e * sum_by differs all
  sums_apart factors [] e within = omega arith
  sums_apart factors (p ∷ ps) e within =
      let one = part_apart (factors p) (amount p) (times p a) (times p b) e (within p).0 (within p).1 in
      let rest = sums_apart factors ps e within in
      let more = mul-add e (differs p) (sum_by differs ps) in
      rw (
        sum_by-cons (at_factors factors a) p ps,
        sum_by-cons (at_factors factors b) p ps,
        sum_by-cons (share a) p ps,
        sum_by-cons (share b) p ps,
        sum_by-cons differs p ps,
      )
      (omega (arith, one, rest, more))

  pub worst_sums : (all : List P) (e : ℕ) → e ≤ 100
      → sum_by (at_factors (worst e) a) all + 100 * sum_by (share b) all
      ≡ sum_by (at_factors (worst e) b) all + 100 * sum_by (share a) all + e * sum_by differs all
  worst_sums [] e few = omega arith
  worst_sums (p ∷ ps) e few =
      let one = worst_apart (amount p) (times p a) (times p b) e few in
      let rest = worst_sums ps e few in
      let more = mul-add e (differs p) (sum_by differs ps) in
      rw (
        sum_by-cons (at_factors (worst e) a) p ps,
        sum_by-cons (at_factors (worst e) b) p ps,
        sum_by-cons (share a) p ps,
        sum_by-cons (share b) p ps,
        sum_by-cons differs p ps,
      )
      (omega (arith, one, rest, more))

  -- the rival has at most the difference more
  no_further : (p : P) → share b p ≤ share a p + differs p
  no_further p =
      let s = amount p in
      let low : times p b ≤ times p a + abs_diff (times p a) (times p b) = omega arith in
      let more = mul-add s (times p a) (abs_diff (times p a) (times p b)) in
      let high = mul-le-mul_left s low in
      omega (arith, more, high)

  pub all_no_further : (all : List P)
      → sum_by (share b) all ≤ sum_by (share a) all + sum_by differs all
  all_no_further [] = omega arith
  all_no_further (p ∷ ps) =
      rw (sum_by-cons (share a) p ps, sum_by-cons (share b) p ps, sum_by-cons differs p ps)
      (omega (arith, no_further p, all_no_further ps))

  -- if it has the whole difference more, it costs no less at any factors
  pub never_cheaper : (factors : P → ℕ) (all : List P)
      → sum_by (share a) all + sum_by differs all ≤ sum_by (share b) all
      → sum_by (at_factors factors a) all ≤ sum_by (at_factors factors b) all
  never_cheaper factors [] high = omega arith
  never_cheaper factors (p ∷ ps) high =
      let parts = rw (sum_by-cons (share a) p ps, sum_by-cons (share b) p ps, sum_by-cons differs p ps)
      at high in
      let one : share a p ≤ share b p = omega (arith, parts, all_no_further ps) in
      let rest : sum_by (share a) ps + sum_by differs ps ≤ sum_by (share b) ps =
      omega (arith, parts, no_further p) in
      rw (sum_by-cons (at_factors factors a) p ps, sum_by-cons (at_factors factors b) p ps)
      (omega (arith, mul-le-mul_left (factors p) one, never_cheaper factors ps rest))

  -- at a factor of 100 each
  pub hundred_times : (r : R) (all : List P) → sum_by (at_factors (λ p. 100) r) all ≡ 100 * sum_by (share r) all
  hundred_times r [] = refl
  hundred_times r (p ∷ ps) =
      let rest = hundred_times r ps in
      let more = sum_by-cons (at_factors (λ p. 100) r) p ps in
      let shares = sum_by-cons (share r) p ps in
      more ∙ (rw shares (omega (arith, rest)))
