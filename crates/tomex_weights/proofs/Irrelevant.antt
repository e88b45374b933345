-- The weight of a program that takes equally many cycles on all rows changes no span.
use Rattle.std.proofs.Common.{◌≡◌, ◌∙◌, ◌<◌, ◌*◌, ◌==◌, ℕ, suc, arith, ap, inl, inr, not, refl, subst, sym}
use Rattle.std.proofs.Common.{false, List, [], ◌∷◌, map}
use Rattle.std.specs.List.{AllByRecursion, Contains, list_any}
use Rattle.std.proofs.lemmas.Bool.{cases_Bool, eqb-true, or_parts, true≢false}
use Rattle.tomex_pareto.specs.declared.front_row.FrontRow.{FrontRow}
use Rattle.tomex_pareto.proofs.Pareto.{Has, among}
use Rattle.tomex_pareto.specs.declared.line_row.LineRow.{LineRow}
use Rattle.tomex_pareto.specs.declared.spans.ValueSpan.{ValueSpan}
use Rattle.tomex_pareto.specs.Spans.{span}
use Rattle.tomex_pareto.proofs.EqualTimes.{IsAllOrNone, all_or_none}
use Rattle.tomex_pareto.proofs.Settled.{held_some, settled_if_some}
use Rattle.tomex_study.specs.Study.{DesignSpace}
use Rattle.tomex_study.specs.StudyFront.{all_rows}
use Rattle.tomex_weights.specs.Spans.{greatest_weight}
use Rattle.tomex_weights.specs.Laws.{HoldsAllIfIrrelevant}
use Rattle.tomex_weights.specs.Programs.{is_relevant}
use Rattle.tomex_weights.specs.Reweighted.{own_cycles, weight_at}
use Rattle.tomex_weights.specs.Spans.{by_weight, rows_by_weight, span_of}
use Rattle.tomex_weights.proofs.Whole.{holds_stated}

not_other : (n t : ℕ) → not (n == t) ≡ false → n ≡ t
not_other n t e = elim (cases_Bool (n == t)) [
  | inl same ↦ eqb-true n t same
  | inr other ↦ absurd (true≢false (sym (ap not other) ∙ e))
]

module _ (s : DesignSpace) (place t : ℕ) where
  none_other : (rows : List FrontRow) → list_any (λ r. not (own_cycles s place r.row == t)) rows ≡ false
      → AllByRecursion (λ (j : LineRow). j.times ≡ t) (map (by_weight s place) rows)
  none_other [] e = tt
  none_other (x ∷ xs) e =
      let two = or_parts (not (own_cycles s place x.row == t))
      (list_any (λ r. not (own_cycles s place r.row == t)) xs) e in
      (not_other (own_cycles s place x.row) t two.0, none_other xs two.1)

  own_same : (rows : List FrontRow) (r : FrontRow) → Has rows r
      → AllByRecursion (λ (j : LineRow). j.times ≡ t) (map (by_weight s place) rows) → own_cycles s place r.row ≡ t
  own_same [] r one all = absurd one
  own_same (x ∷ xs) r (inl is) all = ap (λ (v : FrontRow). own_cycles s place v.row) (sym is) ∙ all.0
  own_same (x ∷ xs) r (inr there) all = own_same xs r there all.1

-- all rows take as many as the first one
all_same : (s : DesignSpace) (place : ℕ) → is_relevant s place ≡ false
    → AllByRecursion (λ (j : LineRow). j.times ≡ own_cycles s place 0) (rows_by_weight s place)
unfolding is_relevant
all_same s place e = none_other s place (own_cycles s place 0) (all_rows s) e

whole_span : (s : ValueSpan) → IsAllOrNone (record { first = 1; end = suc greatest_weight }) s → 0 < s.end
    → s ≡ record { first = 1; end = suc greatest_weight }
whole_span s is some = elim is.end [
  | inl all ↦ rw (sym is.first, sym all) refl
  | inr none ↦ absurd (omega (arith, none, some))
]

-- a span that isn't empty is all weights
pub whole_if_some : (s : DesignSpace) (place : ℕ) (r : FrontRow) → Contains (all_rows s) r → is_relevant s place ≡ false
    → 0 < (span_of s place r).end → span_of s place r ≡ record { first = 1; end = suc greatest_weight }
whole_if_some s place r one fails some =
    let rows = rows_by_weight s place in
    let own = by_weight s place r in
    let first = own_cycles s place 0 in
    let same = all_same s place fails in
    let times : own.times ≡ first = own_same s place first (all_rows s) r (among (all_rows s) r one) same in
    let whole = span 1 greatest_weight own rows in
    let is = settled_if_some whole some in
    is
    ∙ whole_span whole
    (all_or_none own rows (record { first = 1; end = suc greatest_weight })
    (subst (λ (n : ℕ). AllByRecursion (λ (j : LineRow). j.times ≡ n) rows) (sym times) same))
    (subst (λ (s : ValueSpan). 0 < s.end) is some)

pub holds_all : HoldsAllIfIrrelevant
holds_all s place r is low one on fails =
    let now = 100 * weight_at s place in
    whole_if_some s place r one fails (held_some (span_of s place r) now (holds_stated s place r is low one ∙ on))
