-- The changes of a machine are rows of the study.
use Rattle.std.proofs.Common.{◌<◌, length, All}
use Rattle.std.specs.List.{range_with_len}
use Rattle.std.proofs.lemmas.List.Elements.{All-filter, All-map}
use Rattle.tomex_pareto.specs.declared.front_row.FrontRow.{FrontRow}
use Rattle.tomex_study.proofs.Rows.{rows_within}
use Rattle.tomex_study.specs.Study.{DesignSpace, IsStudy, config_at}
use Rattle.tomex_study.specs.StudyFront.{all_rows}
use Rattle.tomex_worth.specs.Changes.{change, changes_at, changes_of, differ_at}
use Rattle.tomex_config.specs.Parts.{part_at}
use Rattle.tomex_worth.specs.declared.changes.Change.{Change}
use Rattle.tomex_layout.proofs.Each.{all_flat_map}

-- changes are rows of the study
pub changes_within : (s : DesignSpace) (own : FrontRow) → IsStudy s
    → All (λ c. c.row.row < length s.rows) (changes_of s own)
unfolding changes_of changes_at
changes_within s own is =
    let P : Change → Type 0 = λ c. c.row.row < length s.rows in
    all_flat_map P (changes_at s own) (range_with_len 0 13)
    (λ place. All-map P (change (part_at place)) _
    (All-filter (λ r. differ_at place (config_at s own.row) (config_at s r.row)) (λ r. r.row < length s.rows)
    (all_rows s) (rows_within s is)))
