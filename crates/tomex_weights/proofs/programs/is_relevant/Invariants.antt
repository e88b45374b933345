-- The remaining rows.
use Rattle.std.proofs.Common.{◌≡◌, ◌==◌, drop, not}
use Rattle.std.specs.List.{list_any}
use Rattle.tomex_weights.specs.Reweighted.{own_cycles}
use Rattle.tomex_weights.proofs.programs.is_relevant.Given as goal

abbrev pub invariant-loop-row : goal.invariant-loop-row
invariant-loop-row g l =
    list_any (λ r. not (own_cycles l.surveyed l.place r.row == l.first)) (drop l.row-index l.row-items)
    ≡ list_any (λ r. not (own_cycles l.surveyed l.place r.row == l.first)) l.row-items
