-- The record of one more latency.
use Rattle.std.proofs.Common.{refl}
use Rattle.tomex_config.specs.Cost.{all_units}
use Rattle.tomex_layout.specs.Csv.{text_written}
use Rattle.tomex_layout.proofs.Pieces.{next_piece}
use Rattle.tomex_run_views.proofs.Written.{all_put}
use Rattle.tomex_path_views.specs.ByReason.{latency_record}
use Rattle.tomex_path_views.proofs.by_reason.put_latencies.Goals as goal

pub loop-unit-preserved : goal.loop-unit-preserved
loop-unit-preserved g c = record {
  ready = c.in_ok-put_latency.ensures.ready;
  text = next_piece (latency_record c.args.config.now c.args.path.now) all_units c.loop-unit.unit-index _ _ _
      (text_written (λ v. v.items) c.loop-unit.writer) _ c.loop-unit-test.true refl c.loop-unit.invariant.text
      c.in_ok-put_latency.ensures.text;
}

pub returns-clause-text : goal.returns-clause-text
returns-clause-text g c =
    all_put (latency_record c.args.config.now c.args.path.now) all_units c.loop-unit.unit-index _ _
    c.loop-unit-test.false c.loop-unit.invariant.text
