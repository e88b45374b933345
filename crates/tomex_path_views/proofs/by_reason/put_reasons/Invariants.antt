-- The records of the reasons so far are written.
use Rattle.std.proofs.Common.{◌≡◌, ◌++◌, take}
use Rattle.std.specs.List.{flat_map}
use Rattle.tomex_layout.specs.Csv.{IsReady, text_written}
use Rattle.tomex_path.specs.Laws.{all_reasons}
use Rattle.tomex_path_views.specs.ByReason.{reason_record}
use Rattle.tomex_path_views.proofs.by_reason.put_reasons.Given as goal

abbrev pub invariant-loop-reason : goal.invariant-loop-reason
invariant-loop-reason g l = record {
  ready : IsReady l.writer;
  text : text_written (λ v. v.items) l.writer
      ≡ text_written (λ v. v.items) l.fn.writer
      ++ flat_map (reason_record l.config l.path) (take l.reason-index all_reasons);
}
