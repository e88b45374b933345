-- If the front leaves a row no weight, all rows leave it none.
use Rattle.std.proofs.Common.{◌≡◌, ◌∙◌, ap, subst, sym, false, nat_lt}
use Rattle.tomex_pareto.specs.declared.line_row.LineRow.{LineRow}
use Rattle.tomex_pareto.specs.declared.spans.ValueSpan.{ValueSpan}
use Rattle.tomex_pareto.specs.Spans.{settled, span}
use Rattle.tomex_weights.specs.Spans.{greatest_weight}
use Rattle.tomex_weights.specs.Spans.{rows_by_weight}
use Rattle.tomex_weights.proofs.FrontFirst.{none_more}
use Rattle.tomex_weights.proofs.columns.span_by.Goals as goal

pub returns-else-has_weights : goal.returns-else-has_weights
returns-else-has_weights g c =
    let rows = rows_by_weight c.args.surveyed.now c.args.place in
    let none = subst (λ (s : ValueSpan). nat_lt s.first s.end ≡ false) c.settled_span-among_front.ensures.span
    (sym c.has_weights.ensures ∙ c.if-has_weights.false) in
    c.settled_span-among_front.ensures.span
    ∙ (none_more 1 greatest_weight rows c.args.front.now c.by_weight-line.result c.requires.front none
    ∙ ap (λ (r : LineRow). settled (span 1 greatest_weight r rows)) c.by_weight-line.ensures.line)
