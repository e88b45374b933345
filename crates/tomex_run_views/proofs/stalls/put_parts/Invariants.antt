-- The records of the parts so far are written.
use Rattle.std.proofs.Common.{◌≡◌, ◌++◌, take}
use Rattle.std.specs.List.{flat_map}
use Rattle.tomex_config.specs.Parts.{all_parts}
use Rattle.tomex_layout.specs.Csv.{IsReady, text_written}
use Rattle.tomex_run_views.specs.StallsReport.{part_record}
use Rattle.tomex_run_views.proofs.stalls.put_parts.Given as goal

abbrev pub invariant-loop-part : goal.invariant-loop-part
invariant-loop-part g l = record {
  ready : IsReady l.writer;
  text : text_written (λ v. v.items) l.writer
      ≡ text_written (λ v. v.items) l.fn.writer
      ++ flat_map (part_record l.config l.needs) (take l.part-index all_parts);
}
