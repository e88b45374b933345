-- One more view.
use Rattle.std.proofs.Common.{◌+◌, arith}
use Rattle.tomex_animate.proofs.Pages.{passed_on}
use Rattle.tomex_animate.specs.Page.{view_of}
use Rattle.tomex_snapshots.proofs.Lists.{number_more}
use Rattle.tomex_animate.proofs.view.push_views.Goals as goal

pub loop-cycle-preserved : goal.loop-cycle-preserved
loop-cycle-preserved g c =
    let views = c.args.views.now in
    record {
      text = number_more (view_of views.cells views.config.now views.page views.total views.steps.now views.last.now
          views.path.now views.entries.now) c.loop-cycle.cycle (views.page.to + 1) _ _ _
          (omega (arith, c.loop-cycle-test.true))
          c.in_ok-push_view.ensures c.loop-cycle.invariant.text;
      few = c.place_of-place.ensures.few;
      passed = passed_on views.path.now c.place_of-place.result c.loop-cycle.cycle c.place_of-place.ensures.passed;
    }
