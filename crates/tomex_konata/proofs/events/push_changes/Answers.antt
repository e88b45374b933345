-- One more cycle.
use Rattle.std.proofs.Common.{refl, sym, ap, arith, ◌∙◌}
use Rattle.tomex_konata.proofs.Turns.{all_changed, change_again, change_once}
use Rattle.tomex_konata.proofs.events.push_changes.Goals as goal
use Rattle.tomex_konata.proofs.events.push_changes.Goals.{then-not-contains+in_ok-push, else-not-contains}

pub loop-place-preserved : goal.loop-place-preserved
loop-place-preserved g c = elim c.if-not-contains.branch [
  | then-not-contains+in_ok-push w ↦ change_once c.args.entry.now.id c.args.last c.args.entry.now c.loop-place.place _ 0
      _ c.change_cycles-cycles.ensures c.loop-place-test.true (omega (arith, c.loop-place-test.true)) refl
      (sym c.contains.ensures.value ∙ w.if-not-contains.true)
      (ap (λ v. v.items) w.events-is ∙ w.in_ok-push.ensures.items) c.loop-place.invariant
  | else-not-contains w ↦ change_again c.args.entry.now.id c.args.last c.args.entry.now c.loop-place.place _ 0
      c.change_cycles-cycles.ensures c.loop-place-test.true (omega (arith, c.loop-place-test.true)) refl
      (sym c.contains.ensures.value ∙ w.if-not-contains.false) (ap (λ v. v.items) w.events-is) c.loop-place.invariant
]

pub returns : goal.returns
returns g c = all_changed c.args.entry.now.id c.args.last c.loop-place.place c.args.entry.now _ _
    c.loop-place-test.false c.loop-place.invariant
