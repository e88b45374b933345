-- The changes so far, and the remaining rows.
use Rattle.std.proofs.Common.{◌≡◌, ◌++◌, drop, map}
use Rattle.std.specs.List.{filter}
use Rattle.tomex_worth.specs.Changes.{change, differ_at}
use Rattle.tomex_config.specs.Parts.{part_at}
use Rattle.tomex_study.specs.Study.{config_at}
use Rattle.tomex_worth.proofs.changes.push_changes_at.Given as goal

abbrev pub invariant-loop-row : goal.invariant-loop-row
invariant-loop-row g l =
    l.changes.items ++ map (change (part_at l.place))
    (filter (λ r. differ_at l.place (config_at l.surveyed l.fn.own.row) (config_at l.surveyed r.row))
    (drop l.row-index l.row-items))
    ≡ l.fn.changes.items ++ map (change (part_at l.place))
    (filter (λ r. differ_at l.place (config_at l.surveyed l.fn.own.row) (config_at l.surveyed r.row)) l.row-items)
