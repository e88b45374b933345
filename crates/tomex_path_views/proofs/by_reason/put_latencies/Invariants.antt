-- The records of the latencies so far are written.
use Rattle.std.proofs.Common.{◌≡◌, ◌++◌, take}
use Rattle.std.specs.List.{flat_map}
use Rattle.tomex_config.specs.Cost.{all_units}
use Rattle.tomex_layout.specs.Csv.{IsReady, text_written}
use Rattle.tomex_path_views.specs.ByReason.{latency_record}
use Rattle.tomex_path_views.proofs.by_reason.put_latencies.Given as goal

abbrev pub invariant-loop-unit : goal.invariant-loop-unit
invariant-loop-unit g l = record {
  ready : IsReady l.writer;
  text : text_written (λ v. v.items) l.writer
      ≡ text_written (λ v. v.items) l.fn.writer
      ++ flat_map (latency_record l.config l.path) (take l.unit-index all_units);
}
