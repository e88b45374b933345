-- The cycles for one reason more.
use Rattle.std.proofs.lemmas.Grind.{common_steps}
use Rattle.std.proofs.Common.{◌≡◌, ◌∙◌, arith, map, refl}
use Rattle.std.specs.Prelude.{is_none}
use Rattle.std.proofs.lemmas.List.{length-map}
use Rattle.tomex_path_views.specs.ByReason.{links_with}
use Rattle.tomex_path_views.specs.Shares.{share_of}
use Rattle.tomex_stretches.specs.Cycles.{is_key}
use Rattle.tomex_loop_views.specs.PathCycles.{key_of_link, sum_for}
use Rattle.tomex_loop_views.proofs.Adding.{reasons_more}
use Rattle.tomex_loop_views.proofs.PathKeys.{keys_low}
use Rattle.tomex_loop_views.proofs.paths.paths_of.Goals as goal

pub add-requires-clause-pairs : goal.add-requires-clause-pairs
add-requires-clause-pairs g c =
    let is : c.as_slice-keys.result.now ≡ map (key_of_link c.args.keys.now) c.args.links.now =
    c.as_slice-keys.ensures.value ∙ c.in_ok-of_links.ensures in
    rw is (length-map c.args.links.now (key_of_link c.args.keys.now))

pub add-requires-clause-keys : goal.add-requires-clause-keys
add-requires-clause-keys g c =
    let is : c.as_slice-keys.result.now ≡ map (key_of_link c.args.keys.now) c.args.links.now =
    c.as_slice-keys.ensures.value ∙ c.in_ok-of_links.ensures in
    rw (is, c.loop-reason.invariant.count) (keys_low c.args.count c.args.keys.now c.args.links.now c.requires.keys)

pub loop-reason-preserved : goal.loop-reason-preserved
loop-reason-preserved g c =
    let is : c.as_slice-keys.result.now ≡ map (key_of_link c.args.keys.now) c.args.links.now =
    c.as_slice-keys.ensures.value ∙ c.in_ok-of_links.ensures in
    record {
      count = c.in_ok-add.ensures.count ∙ c.loop-reason.invariant.count;
      by_loop = λ n l. reasons_more (λ reason. sum_for reason (is_key n) c.args.keys.now c.args.links.now)
          c.loop-reason.reason-index _ _ _ _ c.loop-reason-test.true refl (c.loop-reason.invariant.by_loop n l)
          (rw is at (c.in_ok-add.ensures.by_loop n (omega (arith, l, c.loop-reason.invariant.count))));
      outside = reasons_more (λ reason. sum_for reason is_none c.args.keys.now c.args.links.now)
          c.loop-reason.reason-index _ _ _ _ c.loop-reason-test.true refl c.loop-reason.invariant.outside
          (rw is at c.in_ok-add.ensures.outside);
      total = reasons_more (λ reason. (share_of (links_with reason c.args.links.now)).cycles)
          c.loop-reason.reason-index _ _ _ _ c.loop-reason-test.true refl c.loop-reason.invariant.total
          c.in_ok-add.ensures.total;
    }

pub loop-reason-init : goal.loop-reason-init
loop-reason-init = grind (arith, common_steps)
