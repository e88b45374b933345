-- Fewer rows have a front with the same points if for each of the others one of them is as good.
use Rattle.std.proofs.Common.{◌≡◌, ◌≤◌, arith, refl, subst, ◌∙◌, List, inl, inr}
use Rattle.std.specs.Prelude.{nat_lt}
use Rattle.std.proofs.lemmas.Bool.{cases_Bool}
use Rattle.std.proofs.lemmas.Bool.Decides.{nat_tests}
use Rattle.std.proofs.lemmas.List.Sorted.{IsPermutation-sym}
use Rattle.tomex_pareto.specs.Front.{by_cost, front_of}
use Rattle.tomex_pareto.specs.Pareto.{Dominates}
use Rattle.tomex_pareto.specs.declared.front_row.FrontRow.{FrontRow}
use Rattle.tomex_pareto.proofs.Pareto.{IsFree, has_moved, kept, kept_all, kept_only, ordered_moves}
use Rattle.tomex_choices.specs.Passing.{Has}
use Rattle.tomex_choices.specs.Points.{HaveSamePoints, IsFrontKept, front_points, point_of}
use Rattle.tomex_choices.proofs.Dropping.{as_row, from_row}
use Rattle.tomex_choices.proofs.Members.{from_map, has_map}
use Rattle.tomex_choices.proofs.Passes.{contains_from, has_from}

-- the front's rows, even if some have the same number

pub front_only : (rows : List FrontRow) (r : FrontRow) → Has (front_of rows) r → Has rows r × IsFree rows r
unfolding front_of
front_only rows r h =
    let moved = has_moved (by_cost (kept rows)) (kept rows) r (IsPermutation-sym _ _ (ordered_moves (kept rows)))
    (as_row (front_of rows) r h) in
    let w = kept_only rows r moved in
    (from_row rows r w.0, w.1)

front_all : (rows : List FrontRow) (r : FrontRow) → Has rows r → IsFree rows r → Has (front_of rows) r
unfolding front_of
front_all rows r h free =
    from_row (front_of rows) r
    (has_moved (kept rows) (by_cost (kept rows)) r (ordered_moves (kept rows))
    (kept_all rows r (as_row rows r h) free))

-- what is as good dominates as much

pub no_worse : (a b c : FrontRow) → a.cost ≤ b.cost → a.cycles ≤ b.cycles → Dominates b c → Dominates a c
no_worse a b c cheap fast d =
    let cost = d.cost in
    let cycles = d.cycles in
    record {
      cost = omega arith;
      cycles = omega arith;
      less = elim d.less [ inl e ↦ inl (omega (arith, e)) | inr e ↦ inr (omega (arith, e)) ];
    }

no_better : (a b c : FrontRow) → b.cost ≡ c.cost → b.cycles ≡ c.cycles → Dominates a b → Dominates a c
no_better a b c costs takes d =
    let cost = d.cost in
    let cycles = d.cycles in
    record {
      cost = omega (arith, costs);
      cycles = omega (arith, takes);
      less = elim d.less [ inl e ↦ inl (omega (arith, e, costs)) | inr e ↦ inr (omega (arith, e, takes)) ];
    }

equal_if_free : (a b : FrontRow) → a.cost ≤ b.cost → a.cycles ≤ b.cycles → (Dominates a b → ⊥)
    → (a.cost ≡ b.cost) × (a.cycles ≡ b.cycles)
equal_if_free a b cheap fast free = elim (cases_Bool (nat_lt a.cost b.cost)) [
  | inl e ↦ absurd (free (record { cost = cheap; cycles = fast; less = inl (grind (arith, nat_tests)) }))
  | inr e ↦ elim (cases_Bool (nat_lt a.cycles b.cycles)) [
    | inl f ↦ absurd (free (record { cost = cheap; cycles = fast; less = inr (grind (arith, nat_tests)) }))
    | inr f ↦ (grind (arith, nat_tests), grind (arith, nat_tests))
  ]
]

same_point : (a b : FrontRow) → a.cost ≡ b.cost → a.cycles ≡ b.cycles → point_of a ≡ point_of b
same_point a b costs takes = rw (costs, takes) refl

-- one of these rows is as good as a row
abbrev pub HasAsGood : List FrontRow → FrontRow → Type 0
HasAsGood rows q = (p : FrontRow) × Has rows p × (p.cost ≤ q.cost) × (p.cycles ≤ q.cycles)

module _ (few many : List FrontRow) (are : (r : FrontRow) → Has few r → Has many r)
    (covers : (q : FrontRow) → Has many q → HasAsGood few q) where
  stays_on : (r : FrontRow) → Has (front_of few) r → Has (front_of many) r
  stays_on r h =
      let w = front_only few r h in
      front_all many r (are r w.0) (λ q i d.
      let p = covers q (from_row many q i) in
      w.1 p.0 (as_row few p.0 p.1) (no_worse p.0 q r p.2 p.3 d))

  has_point : (r : FrontRow) → Has (front_of many) r
      → (p : FrontRow) × Has (front_of few) p × (p.cost ≡ r.cost) × (p.cycles ≡ r.cycles)
  has_point r h =
      let w = front_only many r h in
      let p = covers r w.0 in
      let same = equal_if_free p.0 r p.2 p.3 (w.1 p.0 (as_row many p.0 (are p.0 p.1))) in (
        p.0,
        front_all few p.0 p.1
            (λ q i d. w.1 q (as_row many q (are q (from_row few q i))) (no_better q p.0 r same.0 same.1 d)),
        same.0,
        same.1,
      )

  same_points : HaveSamePoints few many
  same_points p = (
    λ c.
        let w = from_map point_of (front_of few) p (has_from (front_points few) p c) in
        contains_from (front_points many) p
        (subst (Has (front_points many)) w.2 (has_map point_of (front_of many) w.0 (stays_on w.0 w.1))),
    λ c.
        let w = from_map point_of (front_of many) p (has_from (front_points many) p c) in
        let o = has_point w.0 w.1 in
        let same : point_of o.0 ≡ p = same_point o.0 w.0 o.2 o.3 ∙ w.2 in
        contains_from (front_points few) p
        (subst (Has (front_points few)) same (has_map point_of (front_of few) o.0 o.1)),
  )

  pub front_kept : IsFrontKept few many
  front_kept = record {
    rows_stay = λ r c. contains_from (front_of many) r (stays_on r (has_from (front_of few) r c));
    points = same_points;
  }
