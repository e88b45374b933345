-- With one weight replaced, a row is on the front exactly if the weight is in its span.
use Rattle.std.proofs.Common.{◌∙◌, ◌==◌, ℕ, ap, subst, sym, List}
use Rattle.std.specs.List.{Contains}
use Rattle.tomex_pareto.specs.Front.{front_of, is_on}
use Rattle.tomex_pareto.specs.declared.front_row.FrontRow.{FrontRow}
use Rattle.tomex_pareto.proofs.OnFront.{contains_map, distinct_map}
use Rattle.tomex_pareto.proofs.Rows.{rows_numbered}
use Rattle.tomex_pareto.specs.SpanLaws.{HaveNumbers}
use Rattle.tomex_pareto.specs.declared.line_row.LineRow.{LineRow}
use Rattle.tomex_pareto.specs.Spans.{span}
use Rattle.tomex_pareto.proofs.AllRivals.{are_on_front_within}
use Rattle.tomex_pareto.proofs.SpanEnds.{in_range}
use Rattle.tomex_pareto.proofs.Settled.{settled_holds}
use Rattle.tomex_study.specs.Cycles.{cycles_of}
use Rattle.tomex_study.specs.Study.{DesignSpace}
use Rattle.tomex_study.specs.StudyFront.{all_rows, front_of_study}
use Rattle.tomex_weights.specs.Spans.{greatest_weight}
use Rattle.tomex_weights.specs.Laws.{IsOnExactlyWithin}
use Rattle.tomex_weights.specs.Spans.{by_weight, rows_by_weight}
use Rattle.tomex_weights.proofs.Reweighing.{rows_reweighted}

pub lines_numbered : (s : DesignSpace) (place : ℕ) → HaveNumbers (rows_by_weight s place)
lines_numbered s place =
    subst (λ (T : Type 0). T) (sym (distinct_map (λ (a b : LineRow). a.row == b.row) (by_weight s place) (all_rows s)))
    (rows_numbered s.costs (cycles_of s))

pub line_there : (s : DesignSpace) (place : ℕ) (r : FrontRow) → Contains (all_rows s) r
    → Contains (rows_by_weight s place) (by_weight s place r)
line_there s place r one = contains_map (by_weight s place) (all_rows s) r one

pub on_within : IsOnExactlyWithin
unfolding front_of_study
on_within s place q r is low above below one =
    let rows = rows_by_weight s place in
    let on = are_on_front_within 1 greatest_weight q rows (by_weight s place r) (lines_numbered s place)
    (line_there s place r one) in
    ap (λ (all : List FrontRow). is_on (front_of all) r.row) (rows_reweighted s place q low)
    ∙ sym (settled_holds (span 1 greatest_weight (by_weight s place r) rows) q
    ∙ (on.cycles ∙ in_range 1 greatest_weight q _ above below))
