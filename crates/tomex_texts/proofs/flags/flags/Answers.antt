-- One more row is flagged.
use Rattle.tomex_texts.proofs.Flagged.{all_flagged, none_flagged, one_flagged}
use Rattle.tomex_texts.proofs.flags.flags.Goals as goal

pub loop-row-init : goal.loop-row-init
loop-row-init g c = none_flagged c.args.rows _ (c.in_ok-flags.ensures.items_if_clones_equal (λ y e. e))

pub loop-row-preserved : goal.loop-row-preserved
loop-row-preserved g c =
    one_flagged c.args.rows c.args.front.now c.loop-row.row-index _ c.loop-row.flags.items c.loop-row-test.true
    (c.requires c.loop-row.row-index _ c.loop-row-test.true) c.loop-row.invariant

pub returns : goal.returns
returns g c = all_flagged c.args.rows c.args.front.now c.loop-row.row-index _ c.loop-row-test.false c.loop-row.invariant
