-- One more row's point is marked.
use Rattle.std.proofs.Common.{arith}
use Rattle.std.proofs.lemmas.Grind.{common_steps}
use Rattle.tomex_front_views.proofs.Dotted.{none_marked, one_marked}
use Rattle.tomex_front_views.proofs.plot.dots.table_of.Goals as goal

pub loop-row-init : goal.loop-row-init
loop-row-init g c = none_marked c.args.axes.now _ (c.in_ok-marks.ensures.items_if_clones_equal (λ y e. e))

pub loop-row-preserved : goal.loop-row-preserved
loop-row-preserved g c =
    one_marked c.args.axes.now c.args.rows.now c.loop-row.row-index _ c.loop-row.marks.items
    c.place_of-place.result c.loop-row-test.true c.place_of-place.ensures.is c.place_of-place.ensures.within
    c.loop-row.invariant

pub returns : goal.returns
returns = grind (arith, common_steps)
