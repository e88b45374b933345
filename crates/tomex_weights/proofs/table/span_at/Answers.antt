-- A row's span stands at its number.
use Rattle.std.proofs.Common.{◌∙◌}
use Rattle.tomex_pareto.specs.Spans.{no_values}
use Rattle.tomex_weights.proofs.TableRows.{stands_at}
use Rattle.tomex_weights.proofs.table.span_at.Goals as goal

pub at-requires : goal.at-requires
at-requires g c =
    (stands_at c.args.surveyed.now c.args.spans.now c.args.row c.keeps_limits.ensures c.requires.spans
    c.requires.row).low

pub returns : goal.returns
returns g c =
    c.at.ensures
    ∙ (stands_at c.args.surveyed.now c.args.spans.now c.args.row c.keeps_limits.ensures c.requires.spans
    c.requires.row).at no_values
