-- One more is joined; at the end none is left.
use Rattle.std.proofs.Common.{◌≡◌, ◌∙◌, length, rules, sym}
use Rattle.std.proofs.lemmas.Bool.{true≢false}
use Rattle.std.specs.Vec.Iter.{into_iter_items}
use Rattle.tomex_sweep.specs.Crews.{given_by, owed_by}
use Rattle.tomex_sweep.proofs.Moves.{begun, moved, ended}
use Rattle.tomex_sweep.proofs.crew.join_all.Goals as goal
use Rattle.tomex_sweep.proofs.crew.join_all.Goals.{in-Ok-push, in-Err-push}

pub loop-handle-init : goal.loop-handle-init
loop-handle-init g c = λ _.
    begun given_by (λ h. owed_by h.promise.0.value) c.args.parts.items _ _ c.requires
    c.into_iter-handle-iterator.ensures.into_iter_gives.0

pub loop-handle-preserved-after-push-2 : goal.loop-handle-preserved-after-push-2
loop-handle-preserved-after-push-2 g c = λ not.
    elim c.match-push.branch [
      | in-Ok-push w ↦ moved given_by (λ h. owed_by h.promise.0.value) c.loop-handle.parts.items
          c.push.new.self.items c.in-Ok.part _ _ c.in-Some.handle _
          w.in-Ok-push.ensures.items c.in-Some.ensures.steps.0 c.in-Ok.ensures
          (c.loop-handle.invariant (sym w.refused-is ∙ not))
      | in-Err-push w ↦ absurd (true≢false (sym w.refused-is ∙ not))
    ]

pub loop-handle-preserved : goal.loop-handle-preserved
loop-handle-preserved g c = λ not. absurd (true≢false not)

pub returns : goal.returns
returns g c =
    let none : length (into_iter_items c.loop-handle.handle-iterator) ≡ 0 = let s = c.in-None.ensures.steps in
    search rules in
    ended (λ h. owed_by h.promise.0.value) _ (into_iter_items c.loop-handle.handle-iterator) _ none
    (c.loop-handle.invariant c.if-refused.false)
