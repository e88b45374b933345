-- The rows that are listed are those that are on the front as stated or with some weight replaced.
use Rattle.std.proofs.Common.{◌≡◌, ◌∙◌, ◌+◌, ◌*◌, ◌<◌, ◌≤◌, ◌&&◌, ℕ, zero, suc, ap, arith, inl, inr}
use Rattle.std.proofs.Common.{nat_le, nat_lt, subst, sym, true, false, Bool, length}
use Rattle.std.specs.List.{Contains, filter, list_any, range_with_len}
use Rattle.std.proofs.lemmas.Bool.{and_from, and_parts, cases_Bool, cases_lt, le-leb, leb-true, lt-ltb, ltb-true}
use Rattle.std.proofs.lemmas.Bool.{false≢true, or_left, or_right}
use Rattle.tomex_pareto.specs.Front.{is_on}
use Rattle.tomex_pareto.specs.declared.front_row.FrontRow.{FrontRow}
use Rattle.tomex_pareto.specs.Spans.{holds, span, stays}
use Rattle.tomex_pareto.proofs.AllRivals.{stay_within}
use Rattle.tomex_pareto.proofs.Settled.{settled_holds}
use Rattle.tomex_study.specs.Study.{DesignSpace, IsStudy}
use Rattle.tomex_study.specs.StudyFront.{all_rows, front_of_study}
use Rattle.tomex_weights.specs.Spans.{greatest_weight}
use Rattle.tomex_weights.specs.Laws.{ComesToFront, ListsAllThatCome, ListsNoOthers}
use Rattle.tomex_weights.specs.Listed.{has_weights, is_listed}
use Rattle.tomex_weights.specs.Programs.{is_relevant, relevant_programs_of}
use Rattle.tomex_weights.specs.Reweighted.{weight_at}
use Rattle.tomex_weights.specs.Spans.{by_weight, rows_by_weight, span_of}
use Rattle.tomex_weights.proofs.Irrelevant.{whole_if_some}
use Rattle.tomex_weights.proofs.Whole.{holds_stated, weight_range}
use Rattle.tomex_weights.proofs.Within.{on_within}

-- tests of the places that pass another one

module _ (p f : ℕ → Bool) where
  any_there : (a n place : ℕ) → a ≤ place → place < a + n → p place ≡ true → f place ≡ true
      → list_any f (filter p (range_with_len a n)) ≡ true
  any_there a zero place above below passes holds = absurd (omega (arith, above, below))
  any_there a (suc n) place above below passes holds = elim (cases_lt a place) [
    | inl later ↦
        let rest = any_there (a + 1) n place (omega (arith, later)) (omega (arith, below)) passes holds in
        elim (cases_Bool (p a)) [
          | inl e ↦ rw e (or_right (f a) (list_any f (filter p (range_with_len (a + 1) n))) rest)
          | inr e ↦ rw e rest
        ]
    | inr first ↦
        let same : place ≡ a = omega (arith, above, first) in
        rw (subst (λ (k : ℕ). p k ≡ true) same passes)
        (or_left (f a) (list_any f (filter p (range_with_len (a + 1) n))) (subst (λ (k : ℕ). f k ≡ true) same holds))
  ]

  found : (a n : ℕ) → list_any f (filter p (range_with_len a n)) ≡ true
      → (place : ℕ) × (place < a + n) × (f place ≡ true)
  found a zero e = absurd (false≢true e)
  found a (suc n) e = elim (cases_Bool (p a)) [
    | inl passes ↦ elim (cases_Bool (f a)) [
      | inl here ↦ (a, omega arith, here)
      | inr not_here ↦
          let w = found (a + 1) n (rw (passes, not_here) at e) in (w.0, omega (arith, w.1), w.2)
    ]
    | inr fails ↦ let w = found (a + 1) n (rw fails at e) in (w.0, omega (arith, w.1), w.2)
  ]

-- a program of any kind

by_program : (s : DesignSpace) (place : ℕ) (r : FrontRow) → IsStudy s → place < length s.programs
    → Contains (all_rows s) r → has_weights (span_of s place r) ≡ true → is_relevant s place ≡ false
    → is_on (front_of_study s) r.row ≡ true
by_program s place r is low one some fails =
    let span = span_of s place r in
    let less = ltb-true span.first span.end some in
    let whole = whole_if_some s place r one fails (omega (arith, less)) in
    let range = weight_range s place is low in
    let now = 100 * weight_at s place in
    let held : holds (record { first = 1; end = suc greatest_weight }) now ≡ true =
    and_from (nat_le 1 now) (nat_lt now (suc greatest_weight)) (le-leb 1 now (omega (arith, range.0)))
    (lt-ltb now (suc greatest_weight) (omega (arith, range.1))) in
    sym (holds_stated s place r is low one) ∙ (ap (λ span. holds span now) whole ∙ held)

pub lists_all : ListsAllThatCome
unfolding is_listed relevant_programs_of
lists_all s r is one comes =
    let span = span_of s comes.place r in
    let held : holds span comes.q ≡ true =
    sym (on_within s comes.place comes.q r is comes.program comes.some comes.few one) ∙ comes.on in
    let two = and_parts (nat_le span.first comes.q) (nat_lt comes.q span.end) held in
    let low = leb-true span.first comes.q two.0 in
    let high = ltb-true comes.q span.end two.1 in
    let some : has_weights span ≡ true = lt-ltb span.first span.end (omega (arith, low, high)) in
    let others = list_any (λ place. has_weights (span_of s place r))
    (filter (is_relevant s) (range_with_len 0 (length s.programs))) in
    elim (cases_Bool (is_relevant s comes.place)) [
      | inl relevant ↦ or_right (is_on (front_of_study s) r.row) others
          (any_there (is_relevant s) (λ place. has_weights (span_of s place r)) 0 (length s.programs) comes.place
          (omega arith) (omega (arith, comes.program)) relevant some)
      | inr fails ↦ or_left (is_on (front_of_study s) r.row) others
          (by_program s comes.place r is comes.program one some fails)
    ]

-- a row whose span has weights is on the front at the first of them
comes_at_first : (s : DesignSpace) (place : ℕ) (r : FrontRow) → IsStudy s → place < length s.programs
    → Contains (all_rows s) r → has_weights (span_of s place r) ≡ true → ComesToFront s r
comes_at_first s place r is low one some =
    let weights = span_of s place r in
    let q = weights.first in
    let rows = rows_by_weight s place in
    let own = by_weight s place r in
    let held : holds weights q ≡ true =
    and_from (nat_le q q) (nat_lt q weights.end) (le-leb q q (omega arith)) some in
    let whole = span 1 greatest_weight own rows in
    let all = and_parts (nat_le 1 q && nat_le q greatest_weight) (stays q rows own)
    (sym (stay_within 1 greatest_weight q rows own) ∙ (sym (settled_holds whole q) ∙ held)) in
    let two = and_parts (nat_le 1 q) (nat_le q greatest_weight) all.0 in
    let above = leb-true 1 q two.0 in
    let below = leb-true q greatest_weight two.1 in
    record {
      place = place;
      q = q;
      program = low;
      some = above;
      few = below;
      on = on_within s place q r is low above below one ∙ held;
    }

pub lists_no_others : ListsNoOthers
unfolding is_listed relevant_programs_of
lists_no_others s r is one listed = elim (cases_Bool (is_on (front_of_study s) r.row)) [
  | inl on ↦ inl on
  | inr off ↦
      let w = found (is_relevant s) (λ place. has_weights (span_of s place r)) 0 (length s.programs)
      (rw off at listed) in
      inr (comes_at_first s w.0 r is (omega (arith, w.1)) one w.2)
]
