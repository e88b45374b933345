-- The entries so far, and the remaining ones.
use Rattle.std.proofs.Common.{◌≡◌, ◌∷◌, ◌++◌, drop, map}
use Rattle.std.specs.Fmt.{decimal}
use Rattle.tomex_weights.specs.Reweighted.{weight_at}
use Rattle.tomex_weights.specs.Spans.{span_of}
use Rattle.tomex_weights.specs.Texts.{span_text}
use Rattle.tomex_weights.specs.WeightsTable.{name_at}
use Rattle.tomex_weights.proofs.table.weight_column.Given as goal

abbrev pub invariant-loop-row : goal.invariant-loop-row
invariant-loop-row g l = record {
  name : l.column.name ≡ name_at l.surveyed l.spans.place;
  entries : l.column.entries ++ map (λ r. span_text (span_of l.surveyed l.spans.place r)) (drop l.row-index l.rows)
      ≡ decimal (weight_at l.surveyed l.spans.place)
      ∷ map (λ r. span_text (span_of l.surveyed l.spans.place r)) l.rows;
}
