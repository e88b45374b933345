-- One more is started; at the end none is left.
use Rattle.std.proofs.Common.{◌≡◌, length, rules, ap, sym, subst, All}
use Rattle.std.proofs.lemmas.List.Elements.{All-rest, All-head}
use Rattle.std.specs.Vec.Iter.{into_iter_items}
use Rattle.tomex_sweep.specs.Crews.{CanStart, owed_by}
use Rattle.tomex_sweep.proofs.Moves.{begun, moved, ended}
use Rattle.tomex_sweep.proofs.crew.start_all.Goals as goal

pub start-requires-clause-worker : goal.start-requires-clause-worker
start-requires-clause-worker g c =
    λ κs within. All-head (CanStart _ _) c.in-Some.worker _
    (subst (All (CanStart _ _)) c.in-Some.ensures.steps.0 c.loop-worker.invariant.1)

pub loop-worker-init : goal.loop-worker-init
loop-worker-init g c =
    let all = c.into_iter-worker-iterator.ensures.into_iter_gives.0 in (
      begun (λ h. owed_by h.promise.0.value) owed_by c.new-handles.result.items _ _ c.new-handles.ensures.items all,
      subst (All (CanStart c.args.shop.now.board.now (length g.J.Plan.costs))) (sym all) c.requires.all,
    )

pub loop-worker-preserved : goal.loop-worker-preserved
loop-worker-preserved g c = (
  moved (λ h. owed_by h.promise.0.value) owed_by c.loop-worker.handles.items c.push.new.self.items c.in-Ok.handle _ _
      c.in-Some.worker _
      c.in-Ok-push.ensures.items c.in-Some.ensures.steps.0 (ap owed_by c.in-Ok.ensures) c.loop-worker.invariant.0,
  All-rest (CanStart _ _) c.in-Some.worker _ _ c.in-Some.ensures.steps.0 c.loop-worker.invariant.1,
)

pub returns : goal.returns
returns g c =
    let none : length (into_iter_items c.loop-worker.worker-iterator) ≡ 0 = let s = c.in-None.ensures.steps in
    search rules in
    ended owed_by _ (into_iter_items c.loop-worker.worker-iterator) _ none c.loop-worker.invariant.0
