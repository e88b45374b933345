-- The record of one more part.
use Rattle.std.proofs.Common.{refl}
use Rattle.tomex_config.specs.Parts.{all_parts}
use Rattle.tomex_run_views.specs.StallsReport.{part_record}
use Rattle.tomex_layout.specs.Csv.{text_written}
use Rattle.tomex_layout.proofs.Pieces.{next_piece}
use Rattle.tomex_run_views.proofs.Written.{all_put}
use Rattle.tomex_run_views.proofs.stalls.put_parts.Goals as goal

pub loop-part-preserved : goal.loop-part-preserved
loop-part-preserved g c = record {
  ready = c.in_ok-put_part.ensures.ready;
  text = next_piece (part_record c.args.config.now c.args.needs.now) all_parts c.loop-part.part-index _ _ _
      (text_written (λ v. v.items) c.loop-part.writer) _ c.loop-part-test.true refl c.loop-part.invariant.text
      c.in_ok-put_part.ensures.text;
}

pub returns-clause-text : goal.returns-clause-text
returns-clause-text g c =
    all_put (part_record c.args.config.now c.args.needs.now) all_parts c.loop-part.part-index _ _
    c.loop-part-test.false c.loop-part.invariant.text
