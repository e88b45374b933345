-- The text so far, and that of the rows to come.
use Rattle.std.proofs.Common.{◌≡◌, ◌++◌, drop}
use Rattle.std.specs.List.{flat_map}
use Rattle.tomex_layout.specs.Csv.{IsReady, text_written}
use Rattle.tomex_texts.specs.FrontReport.{records_of}
use Rattle.tomex_report.proofs.front_text.put_rows.Given as goal

abbrev pub invariant-loop-place : goal.invariant-loop-place
invariant-loop-place g l = record {
  ready : IsReady l.writer;
  text : text_written (λ v. v.items) l.writer ++ flat_map (records_of l.study) (drop l.place l.front)
      ≡ text_written (λ v. v.items) l.fn.writer ++ flat_map (records_of l.study) l.front;
}
