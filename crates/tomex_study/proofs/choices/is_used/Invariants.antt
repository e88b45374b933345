-- The remaining rows of the front.
use Rattle.std.proofs.Common.{◌≡◌, drop}
use Rattle.std.specs.List.{list_any}
use Rattle.tomex_study.specs.Study.{config_at}
use Rattle.tomex_config.specs.Parts.{same_entry}
use Rattle.tomex_study.proofs.choices.is_used.Given as goal

abbrev pub invariant-loop-row : goal.invariant-loop-row
invariant-loop-row g l =
    list_any (λ r. same_entry (config_at l.surveyed r.row) l.config l.part) (drop l.row-index l.row-items)
    ≡ list_any (λ r. same_entry (config_at l.surveyed r.row) l.config l.part) l.row-items
