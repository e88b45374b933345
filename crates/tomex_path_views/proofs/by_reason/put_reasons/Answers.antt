-- The record of one more reason.
use Rattle.std.proofs.Common.{refl}
use Rattle.tomex_layout.specs.Csv.{text_written}
use Rattle.tomex_layout.proofs.Pieces.{next_piece}
use Rattle.tomex_run_views.proofs.Written.{all_put}
use Rattle.tomex_path.specs.Laws.{all_reasons}
use Rattle.tomex_path_views.specs.ByReason.{reason_record}
use Rattle.tomex_path_views.proofs.by_reason.put_reasons.Goals as goal

pub loop-reason-preserved : goal.loop-reason-preserved
loop-reason-preserved g c = record {
  ready = c.in_ok-put_reason.ensures.ready;
  text = next_piece (reason_record c.args.config.now c.args.path.now) all_reasons c.loop-reason.reason-index _ _ _
      (text_written (λ v. v.items) c.loop-reason.writer) _ c.loop-reason-test.true refl c.loop-reason.invariant.text
      c.in_ok-put_reason.ensures.text;
}

pub returns-clause-text : goal.returns-clause-text
returns-clause-text g c =
    all_put (reason_record c.args.config.now c.args.path.now) all_reasons c.loop-reason.reason-index _ _
    c.loop-reason-test.false c.loop-reason.invariant.text
