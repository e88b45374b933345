-- The row of one group more.
use Rattle.std.proofs.Common.{◌≡◌, refl, rules}
use Rattle.std.specs.BTreeMap.{values}
use Rattle.tomex_functions.specs.Calls.{calls_in}
use Rattle.tomex_functions.specs.Kept.{HasAddress, row_of_group}
use Rattle.tomex_run_views.proofs.Written.{first_of}
use Rattle.tomex_functions.proofs.Listings.{rows_next}
use Rattle.tomex_functions.proofs.rows.rows_of.Goals as goal

pub loop-group-init : goal.loop-group-init
loop-group-init g c =
    let all : c.into_iter-group-iterator.result ≡ values c.args.tally.now.groups = search rules in
    record {
      next = tt;
      finite = tt;
      rows = λ symbols steps is calls have. rw (all, c.new-rows.ensures.items) (have, refl);
    }

pub loop-group-preserved : goal.loop-group-preserved
loop-group-preserved g c = record {
  next = tt;
  finite = tt;
  rows = λ symbols steps is calls have.
      let before = c.loop-group.invariant.rows symbols steps is calls have in
      let own = first_of (λ group. HasAddress group.first.pc steps) c.in-Some.group.now _ _ c.in-Some.ensures.steps
      before.0 in
      rows_next (row_of_group symbols (calls_in symbols steps)) (λ group. HasAddress group.first.pc steps)
      _ c.in-Some.ensures.steps before.0 before.1
      (c.row_of.ensures symbols steps is calls own) c.in_ok-push.ensures.items;
}
