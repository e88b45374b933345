-- A row that some of a study's rows leave no value is left none by all of them. The rows of its front are such rows.
use Rattle.std.proofs.Common.{◌≡◌, ◌∙◌, ◌&&◌, ℕ, arith, inl, inr, refl, subst, sym, true, false, List, map, nat_le}
use Rattle.std.proofs.Common.{nat_lt}
use Rattle.std.proofs.Common.{All}
use Rattle.std.specs.List.{Contains}
use Rattle.std.proofs.lemmas.Bool.{and_from, and_parts, cases_Bool, le-leb, leb-true, lt-ltb, ltb-true, true≢false}
use Rattle.std.proofs.lemmas.List.Elements.{All-contains, All-map, All-weaker}
use Rattle.tomex_pareto.specs.declared.front_row.FrontRow.{FrontRow}
use Rattle.tomex_pareto.specs.Front.{front_of, is_undominated}
use Rattle.tomex_pareto.proofs.OnFront.{contains_map}
use Rattle.tomex_pareto.proofs.Pareto.{among, free_undominated, has_contains, kept_there, undominated_free}
use Rattle.tomex_pareto.specs.declared.line_row.LineRow.{LineRow}
use Rattle.tomex_pareto.specs.declared.spans.ValueSpan.{ValueSpan}
use Rattle.tomex_pareto.specs.Spans.{as_cost, holds, settled, span, stays}
use Rattle.tomex_pareto.proofs.AllRivals.{stay_within}
use Rattle.tomex_pareto.proofs.Settled.{settled_some}
use Rattle.tomex_study.specs.Study.{DesignSpace}
use Rattle.tomex_study.specs.StudyFront.{all_rows, front_of_study}
use Rattle.tomex_weights.specs.Spans.{by_weight, rows_by_weight}
use Rattle.tomex_weights.proofs.Within.{line_there}

module _ (least limit : ℕ) (rows few : List LineRow) (r : LineRow) (there : All (Contains rows) few) where
  abbrev whole : ValueSpan
  whole = span least limit r rows

  abbrev part : ValueSpan
  part = span least limit r few

  -- what none of all rows dominates, none of these does
  stays_too : (q : ℕ) → stays q rows r ≡ true → stays q few r ≡ true
  stays_too q here =
      let free = undominated_free (map (as_cost q) rows) (as_cost q r) here in
      let in_rows = All-map (Contains (map (as_cost q) rows)) (as_cost q) few
      (All-weaker (Contains rows) (λ j. Contains (map (as_cost q) rows) (as_cost q j))
      (λ j one. contains_map (as_cost q) rows j one) few there) in
      free_undominated (map (as_cost q) few) (as_cost q r) (λ x one over.
      free x (among (map (as_cost q) rows) x (All-contains (Contains (map (as_cost q) rows)) (map (as_cost q) few) x
      in_rows (has_contains (map (as_cost q) few) x one))) over)

  held_too : (q : ℕ) → holds whole q ≡ true → holds part q ≡ true
  held_too q held =
      let two = and_parts (nat_le least q && nat_le q limit) (stays q rows r)
      (sym (stay_within least limit q rows r) ∙ held) in
      stay_within least limit q few r
      ∙ and_from (nat_le least q && nat_le q limit) (stays q few r) two.0 (stays_too q two.1)

  -- so one that has a value has one among these
  some_too : nat_lt whole.first whole.end ≡ true → nat_lt (settled part).first (settled part).end ≡ true
  some_too some =
      let q = whole.first in
      let held : holds whole q ≡ true = and_from (nat_le q q) (nat_lt q whole.end) (le-leb q q (omega arith)) some in
      let in_part = held_too q held in
      let two = and_parts (nat_le part.first q) (nat_lt q part.end) in_part in
      let low = leb-true part.first q two.0 in
      let high = ltb-true q part.end two.1 in
      subst (λ (s : ValueSpan). nat_lt s.first s.end ≡ true) (sym (settled_some part q in_part))
      (lt-ltb part.first part.end (omega (arith, low, high)))

  pub none_more : nat_lt (settled part).first (settled part).end ≡ false → settled part ≡ settled whole
  none_more none = elim (cases_Bool (nat_lt whole.first whole.end)) [
    | inl some ↦ absurd (true≢false (sym (some_too some) ∙ none))
    | inr e ↦ elim (cases_Bool (nat_lt part.first part.end)) [
      | inl some ↦ absurd (true≢false (sym some ∙ rw some at none))
      | inr not ↦ rw (e, not) refl
    ]
  ]

-- the rows of the front

pub front_there : (s : DesignSpace) → All (Contains (all_rows s)) (front_of_study s)
unfolding front_of_study front_of
front_there s = kept_there (is_undominated (all_rows s)) (all_rows s)

pub lines_there : (s : DesignSpace) (place : ℕ)
    → All (Contains (rows_by_weight s place)) (map (by_weight s place) (front_of_study s))
lines_there s place =
    All-map (Contains (rows_by_weight s place)) (by_weight s place) (front_of_study s)
    (All-weaker (Contains (all_rows s)) (λ (r : FrontRow). Contains (rows_by_weight s place) (by_weight s place r))
    (λ r one. line_there s place r one) (front_of_study s) (front_there s))
