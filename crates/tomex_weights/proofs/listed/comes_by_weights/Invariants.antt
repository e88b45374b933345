-- The remaining programs.
use Rattle.std.proofs.Common.{◌≡◌, drop, get_or}
use Rattle.std.specs.List.{list_any}
use Rattle.tomex_pareto.specs.Spans.{no_values}
use Rattle.tomex_weights.specs.Listed.{has_weights}
use Rattle.tomex_weights.proofs.listed.comes_by_weights.Given as goal

abbrev pub invariant-loop-column : goal.invariant-loop-column
invariant-loop-column l =
    list_any (λ c. has_weights (get_or c.spans l.row no_values)) (drop l.column-index l.columns)
    ≡ list_any (λ c. has_weights (get_or c.spans l.row no_values)) l.columns
