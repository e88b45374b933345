-- The records of the rows so far are written.
use Rattle.std.proofs.Common.{take}
use Rattle.std.specs.List.{flat_map}
use Rattle.tomex_layout.specs.Csv.{IsReady, record_text}
use Rattle.tomex_layout.specs.Growth.{Writes}
use Rattle.tomex_loop_views.specs.Table.{line_fields, line_of}
use Rattle.tomex_loop_views.proofs.table.put_rows.Given as goal

abbrev pub invariant-loop-row : goal.invariant-loop-row
invariant-loop-row g l = record {
  ready : IsReady l.writer;
  text : Writes (flat_map (λ row. record_text (line_fields l.file (line_of row))) (take l.row-index l.rows))
      l.fn.writer l.writer;
}
