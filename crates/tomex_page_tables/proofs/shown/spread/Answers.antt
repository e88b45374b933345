-- One more row.
use Rattle.tomex_page_tables.specs.Shown.{chosen_row}
use Rattle.tomex_page_tables.proofs.Chosen.{values_at_last, value_more}
use Rattle.tomex_page_tables.proofs.shown.spread.Goals as goal

pub loop-k-preserved : goal.loop-k-preserved
loop-k-preserved c =
    value_more (chosen_row c.args.front.now) c.loop-k.k 64 _ _ _ _ c.loop-k-test.true c.chosen_row.ensures
    c.in_ok-push.ensures.items c.loop-k.invariant

pub returns : goal.returns
returns c =
    values_at_last (chosen_row c.args.front.now) c.loop-k.k 64 _ _ c.loop-k-test.false c.loop-k.invariant
