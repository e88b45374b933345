-- The text so far: the records of the rows up to here.
use Rattle.std.proofs.Common.{◌≡◌, ◌++◌, take}
use Rattle.std.specs.List.{flat_map}
use Rattle.tomex_texts.specs.RowsReport.{row_record}
use Rattle.tomex_study.specs.StudyFront.{all_rows}
use Rattle.tomex_texts.proofs.rows_text.put_rows.Given as goal

abbrev pub invariant-loop-row : goal.invariant-loop-row
invariant-loop-row g l =
    l.text.items ≡ l.fn.text.items ++ flat_map (row_record l.surveyed) (take l.row-index (all_rows l.surveyed))
