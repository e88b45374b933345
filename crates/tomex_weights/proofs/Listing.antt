-- Rows that are listed: their spans stand at their numbers, and they are numbered.
use Rattle.std.proofs.Common.{◌≡◌, ◌≢◌, ◌∙◌, ◌<◌, ◌||◌, ℕ, ap, ap₂, arith, refl, subst, sym, List, [], ◌∷◌}
use Rattle.std.proofs.Common.{get_or, length, map, All}
use Rattle.std.specs.List.{Contains, filter, list_any}
use Rattle.std.proofs.lemmas.List.{get_or-map, length-map}
use Rattle.std.proofs.lemmas.List.Elements.{All-map}
use Rattle.std.proofs.lemmas.List.Kept.{AllPairs-filter}
use Rattle.tomex_pareto.specs.declared.front_row.FrontRow.{FrontRow}
use Rattle.tomex_pareto.specs.Pareto.{AreNumbered}
use Rattle.tomex_pareto.proofs.Pareto.{distinct, pairs_rise, rises_pairs}
use Rattle.tomex_pareto.proofs.Rows.{rows_apart}
use Rattle.tomex_study.specs.Cycles.{cycles_of}
use Rattle.tomex_study.specs.Study.{DesignSpace, IsStudy}
use Rattle.tomex_study.specs.StudyFront.{all_rows}
use Rattle.tomex_study.proofs.Rows.{row_there, rows_long}
use Rattle.tomex_pareto.specs.Spans.{no_values}
use Rattle.tomex_weights.specs.Listed.{ProgramSpans, all_spans_of, has_weights, is_listed, spans_by}
use Rattle.tomex_weights.specs.Programs.{relevant_programs_of}
use Rattle.tomex_weights.specs.Spans.{span_of}

-- a row stands at its number
pub record StandsAtNumber (s : DesignSpace) (r : FrontRow) : Type 0 where
  pub low : r.row < length (all_rows s)
  pub at : get_or (all_rows s) r.row r ≡ r

pub at_number : (s : DesignSpace) (r : FrontRow) → IsStudy s → Contains (all_rows s) r → StandsAtNumber s r
at_number s r is one =
    let long = rows_long s is in
    let within : one.0 < length s.rows = omega (arith, one.1, long) in
    let number : one.0 ≡ r.row =
    sym (ap (λ (x : FrontRow). x.row) (sym one.2 ∙ row_there s one.0 r is within)) in
    record {
      low = subst (λ (k : ℕ). k < length (all_rows s)) number one.1;
      at = subst (λ (k : ℕ). get_or (all_rows s) k r ≡ r) number one.2;
    }

module _ (s : DesignSpace) (r : FrontRow) (is : IsStudy s) (one : Contains (all_rows s) r) where
  pub spans_long : All (λ (c : ProgramSpans). r.row < length c.spans) (all_spans_of s)
  unfolding all_spans_of
  spans_long =
      let low = (at_number s r is one).low in
      All-map (λ (c : ProgramSpans). r.row < length c.spans) (spans_by s) (relevant_programs_of s)
      (λ k d within. rw (length-map (all_rows s) (span_of s (get_or (relevant_programs_of s) k d))) low)

  same_spans : (places : List ℕ)
      → list_any (λ (c : ProgramSpans). has_weights (get_or c.spans r.row no_values)) (map (spans_by s) places)
      ≡ list_any (λ place. has_weights (span_of s place r)) places
  same_spans [] = refl
  same_spans (place ∷ rest) =
      let there = at_number s r is one in
      let own = get_or-map (span_of s place) (all_rows s) r.row r no_values there.low
      ∙ ap (span_of s place) there.at in
      ap₂ ◌||◌ (ap has_weights own) (same_spans rest)

  pub comes_is : list_any (λ (c : ProgramSpans). has_weights (get_or c.spans r.row no_values)) (all_spans_of s)
      ≡ list_any (λ place. has_weights (span_of s place r)) (relevant_programs_of s)
  unfolding all_spans_of
  comes_is = same_spans (relevant_programs_of s)

pub listed_numbered : (s : DesignSpace) {items : List FrontRow} → items ≡ filter (is_listed s) (all_rows s)
    → AreNumbered items
listed_numbered s are =
    let far = rises_pairs (λ a b. a.row ≢ b.row) (all_rows s) (rows_apart 0 s.costs (cycles_of s)) in
    subst AreNumbered (sym are) (distinct (filter (is_listed s) (all_rows s))
    (pairs_rise (λ a b. a.row ≢ b.row) (filter (is_listed s) (all_rows s))
    (AllPairs-filter (λ a b. a.row ≢ b.row) (is_listed s) (all_rows s) far)))
