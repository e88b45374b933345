-- Rows with other costs: a row is undominated if each rival that is no slower costs enough more.
use Rattle.std.proofs.Common.{◌≡◌, ◌+◌, ◌≤◌, ◌==◌, inl, inr, ℕ, arith, refl, sym, subst, true, false, cond}
use Rattle.std.proofs.Common.{List, [], ◌∷◌, map}
use Rattle.std.specs.Prelude.{nat_lt}
use Rattle.std.proofs.lemmas.Bool.{cases_Bool, cases_lt, false_from_ne_true, le-ltb, lt-ltb}
use Rattle.tomex_pareto.specs.Front.{front_of, is_on, is_undominated}
use Rattle.tomex_pareto.specs.declared.front_row.FrontRow.{FrontRow}
use Rattle.tomex_pareto.specs.Pareto.{AreNumbered, Dominates}
use Rattle.tomex_pareto.proofs.OnFront.{contains_map, distinct_map, on_front}
use Rattle.tomex_pareto.proofs.Pareto.{Has, among, apart, free_undominated, has_contains, undominated_free}

-- how much more than the row a rival must cost: 1 if it takes fewer cycles
abbrev pub premium : FrontRow → FrontRow → ℕ
premium r j = cond (nat_lt j.cycles r.cycles) 1 0

pub premium_few : (r j : FrontRow) → premium r j ≤ 1
premium_few r j = elim (cases_Bool (nat_lt j.cycles r.cycles)) [
  | inl holds ↦ rw holds (omega arith)
  | inr fails ↦ rw fails (omega arith)
]

-- a row that a rival doesn't dominate costs less by this
pub free_keeps : (r j : FrontRow) → (Dominates j r → ⊥) → j.cycles ≤ r.cycles → r.cost + premium r j ≤ j.cost
free_keeps r j never low = elim (cases_lt j.cycles r.cycles) [
  | inl l ↦
      elim (cases_lt r.cost j.cost) [
        | inl dearer ↦ rw (lt-ltb j.cycles r.cycles l) (omega arith)
        | inr cheap ↦ absurd (never (record { cost = cheap; cycles = low; less = inr l }))
      ]
  | inr g ↦
      elim (cases_lt j.cost r.cost) [
        | inl cheaper ↦ absurd (never (record { cost = omega arith; cycles = low; less = inl cheaper }))
        | inr dear ↦ rw (le-ltb j.cycles r.cycles g) (omega arith)
      ]
]

-- and the other way round
pub keeps_free : (r j : FrontRow) → (j.cycles ≤ r.cycles → r.cost + premium r j ≤ j.cost) → Dominates j r → ⊥
keeps_free r j keeps w =
    let high = keeps w.cycles in
    let cost = w.cost in
    elim w.less [
      | inl l ↦ omega (arith, high, cost, l)
      | inr l ↦ let more = rw (lt-ltb j.cycles r.cycles l) at high in omega (arith, more, cost)
    ]

-- rows with other costs

module _ (cost : FrontRow → ℕ) (rows : List FrontRow) where
  abbrev pub costed : FrontRow → FrontRow
  costed r = record { row = r.row; cost = cost r; cycles = r.cycles }

  has_costed : (r : FrontRow) → Has rows r → Has (map costed rows) (costed r)
  has_costed r one = among (map costed rows) (costed r) (contains_map costed rows r (has_contains rows r one))

  of_costed : (xs : List FrontRow) (q : FrontRow) → Has (map costed xs) q
      → (j : FrontRow) × Has xs j × (costed j ≡ q)
  of_costed [] q one = absurd one
  of_costed (x ∷ xs) q (inl is) = (x, inl refl, is)
  of_costed (x ∷ xs) q (inr there) = let w = of_costed xs q there in (w.0, inr w.1, w.2)

  -- a row that no rival beats is undominated
  pub on_costed : (r : FrontRow)
      → ((j : FrontRow) → Has rows j → j.cycles ≤ r.cycles → cost r + premium r j ≤ cost j)
      → is_undominated (map costed rows) (costed r) ≡ true
  on_costed r keeps = free_undominated (map costed rows) (costed r) (λ q there w.
      let j = of_costed rows q there in
      keeps_free (costed r) (costed j.0) (keeps j.0 j.1)
      (subst (λ (x : FrontRow). Dominates x (costed r)) (sym j.2) w))

  -- one that a rival beats isn't
  pub off_costed : (r j : FrontRow) → Has rows j → Dominates (costed j) (costed r)
      → is_undominated (map costed rows) (costed r) ≡ false
  off_costed r j there beaten = false_from_ne_true _ (λ e.
      undominated_free (map costed rows) (costed r) e (costed j) (has_costed j there) beaten)

  -- an undominated one of numbered rows is on the front
  pub costed_on : (r : FrontRow) → AreNumbered rows → Has rows r
      → is_on (front_of (map costed rows)) r.row ≡ is_undominated (map costed rows) (costed r)
  costed_on r numbered one =
      on_front (map costed rows) (costed r) (apart (map costed rows) (subst (λ (T : Type 0). T)
      (sym (distinct_map (λ (a b : FrontRow). a.row == b.row) costed rows)) numbered)) (has_costed r one)
