-- The records of the rows so far are written.
use Rattle.std.proofs.Common.{take}
use Rattle.std.specs.List.{flat_map}
use Rattle.tomex_layout.specs.Csv.{IsReady, record_text}
use Rattle.tomex_layout.specs.Growth.{Writes}
use Rattle.tomex_functions.specs.Kept.{fields_by}
use Rattle.tomex_functions.proofs.function_rows.put_rows.Given as goal

abbrev pub invariant-loop-row : goal.invariant-loop-row
invariant-loop-row g l = record {
  ready : IsReady l.writer;
  text : Writes (flat_map (λ row. record_text (fields_by g.C.RowColumns.shown l.file row)) (take l.row-index l.rows)) l.fn.writer l.writer;
}
