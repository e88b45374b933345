-- With one weight replaced, a row is on the front exactly if the weight is in its span.
use Rattle.std.proofs.Common.{◌≡◌, ◌∙◌, ap, ap₂, sym, List}
use Rattle.tomex_pareto.specs.declared.line_row.LineRow.{LineRow}
use Rattle.tomex_pareto.specs.declared.spans.ValueSpan.{ValueSpan}
use Rattle.tomex_pareto.specs.Spans.{holds, settled, span}
use Rattle.tomex_weights.specs.Spans.{greatest_weight}
use Rattle.tomex_weights.specs.Spans.{span_of}
use Rattle.tomex_weights.proofs.Within.{on_within}
use Rattle.tomex_weights.proofs.spans.span_of.Goals as goal

pub returns-clause-span : goal.returns-clause-span
returns-clause-span g c =
    c.settled_span.ensures.span
    ∙ ap₂ (λ (r : LineRow) (rows : List LineRow). settled (span 1 greatest_weight r rows))
    c.by_weight.ensures.line c.requires.rows

pub returns-clause-exact : goal.returns-clause-exact
returns-clause-exact g c =
    let is : c.settled_span.result ≡ span_of c.args.surveyed.now c.args.place c.args.row = returns-clause-span g c in
    λ q above below. on_within c.args.surveyed.now c.args.place q c.args.row c.keeps_limits.ensures c.requires.place
    above below c.requires.row ∙ ap (λ (s : ValueSpan). holds s q) (sym is)
