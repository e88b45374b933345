-- The record of one more link.
use Rattle.std.proofs.Common.{refl}
use Rattle.tomex_layout.specs.Csv.{text_written}
use Rattle.tomex_layout.proofs.Pieces.{next_piece}
use Rattle.tomex_run_views.proofs.Written.{all_put}
use Rattle.tomex_path_views.specs.ByLink.{link_record}
use Rattle.tomex_path_views.proofs.by_link.put_links.Goals as goal

pub loop-link-preserved : goal.loop-link-preserved
loop-link-preserved g c = record {
  ready = c.in_ok-put_link.ensures.ready;
  text = λ own shows.
      next_piece (link_record own c.args.steps.now c.args.times.now) c.args.path.now c.loop-link.link-index _ _ _
      (text_written (λ v. v.items) c.loop-link.writer) _ c.loop-link-test.true refl
      (c.loop-link.invariant.text own shows)
      (c.in_ok-put_link.ensures.text own shows);
}

pub returns-clause-text : goal.returns-clause-text
returns-clause-text g c = λ own shows.
    all_put (link_record own c.args.steps.now c.args.times.now) c.args.path.now c.loop-link.link-index _ _
    c.loop-link-test.false (c.loop-link.invariant.text own shows)
