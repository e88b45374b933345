-- The text so far, and that of the programs to come.
use Rattle.std.proofs.Common.{◌≡◌, ◌++◌, drop}
use Rattle.std.specs.List.{flat_map}
use Rattle.tomex_layout.specs.Csv.{IsReady, text_written}
use Rattle.tomex_texts.specs.FrontReport.{program_record}
use Rattle.tomex_report.proofs.front_text.put_programs.Given as goal

abbrev pub invariant-loop-place : goal.invariant-loop-place
invariant-loop-place g l = record {
  ready : IsReady l.writer;
  text : text_written (λ v. v.items) l.writer
      ++ flat_map (program_record l.wide l.front l.config) (drop l.place l.programs)
      ≡ text_written (λ v. v.items) l.fn.writer ++ flat_map (program_record l.wide l.front l.config) l.programs;
}
