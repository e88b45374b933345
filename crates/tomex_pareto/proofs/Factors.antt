-- All amounts wrong at once: an undominated row stays so within its percentage, and with one percent more it may not.
use Rattle.std.proofs.Common.{◌≡◌, ◌∙◌, ◌+◌, ◌-◌, ◌*◌, ◌/◌, ◌<◌, ◌≤◌, inl, inr, ℕ, ap, arith}
use Rattle.std.proofs.Common.{refl, subst, true, false, Bool, List, [], ◌∷◌, map}
use Rattle.std.specs.Prelude.{min, sum_by}
use Rattle.std.proofs.lemmas.Bool.{cases_lt, le-leb, le-ltb, lt-leb, lt-ltb}
use Rattle.std.proofs.lemmas.Nat.{le-div}
use Rattle.std.proofs.Math.Nat.{div-mul-le_self, mul-le-mul_right}
use Rattle.tomex_pareto.specs.declared.front_row.FrontRow.{FrontRow}
use Rattle.tomex_pareto.specs.Front.{is_undominated}
use Rattle.tomex_pareto.specs.Pareto.{Dominates}
use Rattle.tomex_pareto.proofs.Pareto.{Has, IsFree}
use Rattle.tomex_pareto.specs.Percent.{AreWithin, difference_of, least_of, percent_by}
use Rattle.tomex_pareto.proofs.NewCosts.{costed, free_keeps, off_costed, on_costed, premium, premium_few}
use Rattle.tomex_pareto.proofs.Parts.{all_no_further, differs, hundred_times, never_cheaper, share}
use Rattle.tomex_pareto.proofs.Parts.{sums_apart, worst, worst_sums, worst_within}

-- the least percentage

pub least_few : (percent : FrontRow → ℕ) (rows : List FrontRow) → least_of percent rows ≤ 100
least_few percent [] = (let z : 100 ≤ 100 = omega arith in z)
least_few percent (j ∷ js) =
    let rest = least_few percent js in
    let m : min (percent j) (least_of percent js) ≤ 100 = omega arith in
    m

least_low : (percent : FrontRow → ℕ) (j : FrontRow) (rows : List FrontRow) → Has rows j
    → least_of percent rows ≤ percent j
least_low percent j [] one = absurd one
least_low percent j (x ∷ xs) (inl is) =
    subst (λ (y : FrontRow). least_of percent (x ∷ xs) ≤ percent y) is (omega arith)
least_low percent j (x ∷ xs) (inr there) = omega (arith, least_low percent j xs there)

-- the rival that sets the least one
record SetsLeast (percent : FrontRow → ℕ) (rows : List FrontRow) : Type 0 where
  rival : FrontRow
  one : Has rows rival
  is : percent rival ≡ least_of percent rows

least_set : (percent : FrontRow → ℕ) (rows : List FrontRow) → least_of percent rows < 100 → SetsLeast percent rows
least_set percent [] few = absurd (omega (arith, few))
least_set percent (x ∷ xs) few = elim (cases_lt (least_of percent xs) (percent x)) [
  | inl less ↦
      let rest = least_set percent xs (omega (arith, few, less)) in
      record { rival = rest.rival; one = inr rest.one; is = rest.is ∙ (omega (arith, less)) }
  | inr more ↦ record { rival = x; one = inl refl; is = omega (arith, more) }
]

-- a percentage of the difference is at most how much more the rival costs
rival_within : (d : ℕ) (r j : FrontRow) (e : ℕ) → e ≤ percent_by d r j → j.cycles ≤ r.cycles
    → r.cost + premium r j ≤ j.cost → e * d + premium r j ≤ 100 * (j.cost - r.cost)
rival_within d r j e low fast dear = elim (cases_lt 0 d) [
  | inl some ↦
      let q = (100 * (j.cost - r.cost) - premium r j) / d in
      let is : e ≤ q = rw (le-leb j.cycles r.cycles fast, lt-ltb 0 d some) at low in
      let up : e * d ≤ q * d = mul-le-mul_right d is in
      let down : q * d ≤ 100 * (j.cost - r.cost) - premium r j =
      div-mul-le_self (100 * (j.cost - r.cost) - premium r j) d in
      omega (arith, up, down, dear)
  | inr none ↦
      let zero_apart : d ≡ 0 = omega (arith, none) in
      rw zero_apart (omega (arith, dear))
]

-- and one percent more is more than that, if it is the rival's percentage
rival_beyond : (d : ℕ) (r j : FrontRow) (e : ℕ) → percent_by d r j ≡ e → e < 100
    → (j.cycles ≤ r.cycles) × (100 * (j.cost - r.cost) < (e + 1) * d + premium r j)
rival_beyond d r j e is few = elim (cases_lt r.cycles j.cycles) [
  | inl slow ↦ absurd (let all = rw (lt-leb j.cycles r.cycles slow) at is in omega (arith, all, few))
  | inr fast ↦
      elim (cases_lt 0 d) [
        | inl some ↦ (fast, beyond fast some)
        | inr none ↦
            absurd (let all = rw (le-leb j.cycles r.cycles fast, le-ltb 0 d none) at is in omega (arith, all, few))
      ]
]
  where
    beyond : j.cycles ≤ r.cycles → 0 < d → 100 * (j.cost - r.cost) < (e + 1) * d + premium r j
    beyond fast some =
        let gap = 100 * (j.cost - r.cost) - premium r j in
        let q : gap / d ≡ e = rw (le-leb j.cycles r.cycles fast, lt-ltb 0 d some) at is in
        elim (cases_lt gap ((e + 1) * d)) [
          | inl less ↦ omega (arith, less)
          | inr more ↦ absurd (let w = le-div (e + 1) gap d some more in omega (arith, w, q))
        ]

-- rows whose cost is a sum over parts

module _ {P : Type 0} (amount : P → ℕ) (times : P → FrontRow → ℕ) (all : List P) (rows : List FrontRow)
    (sums : (r : FrontRow) → Has rows r → sum_by (λ p. amount p * times p r) all ≡ r.cost) where
  abbrev apart : FrontRow → FrontRow → ℕ
  apart r j = difference_of amount times all r j

  abbrev pub percent : FrontRow → ℕ
  percent r = least_of (λ j. percent_by (apart r j) r j) rows

  -- a row's cost at factors, in hundredths
  abbrev pub cost_at : (P → ℕ) → FrontRow → ℕ
  cost_at factors r = sum_by (λ p. factors p * (amount p * times p r)) all

  abbrev stays_at : (P → ℕ) → FrontRow → Bool
  stays_at factors r =
      is_undominated (map (costed (cost_at factors) rows) rows) (costed (cost_at factors) rows r)

  -- within the percentage
  rival_stays : (factors : P → ℕ) (r j : FrontRow) (e : ℕ) → Has rows r → Has rows j → AreWithin e factors
      → e * apart r j + premium r j ≤ 100 * (j.cost - r.cost) → r.cost + premium r j ≤ j.cost
      → cost_at factors r + premium r j ≤ cost_at factors j
  rival_stays factors r j e one there within few dear =
      let both = sums_apart amount times r j factors all e within in
      omega (arith, both, sums r one, sums j there, few, dear)

  pub stays_within : (factors : P → ℕ) (r : FrontRow) → Has rows r → IsFree rows r → AreWithin (percent r) factors
      → stays_at factors r ≡ true
  stays_within factors r one free within =
      on_costed (cost_at factors) rows r (λ j there fast.
      let dear = free_keeps r j (free j there) fast in
      rival_stays factors r j (percent r) one there within
      (rival_within (apart r j) r j (percent r) (least_low (λ j. percent_by (apart r j) r j) j rows there) fast dear)
      dear)

  -- at any amounts
  rival_never : (factors : P → ℕ) (r j : FrontRow) → Has rows r → Has rows j
      → 100 * apart r j + premium r j ≤ 100 * (j.cost - r.cost) → r.cost + premium r j ≤ j.cost
      → cost_at factors r + premium r j ≤ cost_at factors j
  rival_never factors r j one there few dear =
      let own = sums r one in
      let other = sums j there in
      let high = all_no_further amount times r j all in
      let whole : sum_by (share amount times r j r) all + sum_by (differs amount times r j) all
      ≤ sum_by (share amount times r j j) all = omega (arith, own, other, few, dear) in
      let none : premium r j ≡ 0 = omega (arith, own, other, few, high, dear) in
      let never = never_cheaper amount times r j factors all whole in
      rw none (omega (arith, never))

  pub stays_if_hundred : (factors : P → ℕ) (r : FrontRow) → Has rows r → IsFree rows r → percent r ≡ 100
      → stays_at factors r ≡ true
  stays_if_hundred factors r one free hundred =
      on_costed (cost_at factors) rows r (λ j there fast.
      let dear = free_keeps r j (free j there) fast in
      let low = least_low (λ j. percent_by (apart r j) r j) j rows there in
      rival_never factors r j one there (rival_within (apart r j) r j 100 (omega (arith, low, hundred)) fast dear) dear)

  -- beyond the percentage
  rival_beats : (r j : FrontRow) (e : ℕ) → e ≤ 100 → Has rows r → Has rows j → j.cycles ≤ r.cycles
      → 100 * (j.cost - r.cost) < e * apart r j + premium r j → r.cost + premium r j ≤ j.cost
      → Dominates (costed (cost_at (worst amount times r j e)) rows j)
      (costed (cost_at (worst amount times r j e)) rows r)
  rival_beats r j e few one there fast more dear =
      let both = worst_sums amount times r j all e few in
      let factors = worst amount times r j e in
      let cheap : cost_at factors j < cost_at factors r + premium r j =
      omega (arith, both, sums r one, sums j there, more, dear) in
      let at_most = premium_few r j in
      elim (cases_lt j.cycles r.cycles) [
        | inl l ↦ record { cost = omega (arith, cheap, at_most); cycles = fast; less = inr l }
        | inr g ↦
            let none : premium r j ≡ 0 = rw (le-ltb j.cycles r.cycles g) refl in
            record { cost = omega (arith, cheap, at_most); cycles = fast; less = inl (omega (arith, cheap, none)) }
      ]

  -- factors at which the row is dominated
  pub record Beats (r : FrontRow) (e : ℕ) : Type 0 where
    pub factors : P → ℕ
    pub within : AreWithin e factors
    pub off : stays_at factors r ≡ false

  pub leaves_beyond : (r : FrontRow) → Has rows r → IsFree rows r → percent r < 100 → Beats r (percent r + 1)
  leaves_beyond r one free few =
      let least = least_set (λ j. percent_by (apart r j) r j) rows few in
      let j = least.rival in
      let e = percent r + 1 in
      let beyond = rival_beyond (apart r j) r j (percent r) least.is few in
      let dear = free_keeps r j (free j least.one) beyond.0 in
      record {
        factors = worst amount times r j e;
        within = worst_within amount times r j e (omega (arith, few));
        off = off_costed (cost_at (worst amount times r j e)) rows r j least.one
            (rival_beats r j e (omega (arith, few)) one least.one beyond.0 beyond.1 dear);
      }

  pub at_hundred : (r : FrontRow) → Has rows r → cost_at (λ p. 100) r ≡ 100 * r.cost
  at_hundred r one = hundred_times amount times r r r all ∙ ap (λ (n : ℕ). 100 * n) (sums r one)
