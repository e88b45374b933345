use Rattle.std.proofs.Common.{◌∙◌, ap, sym}
use Rattle.tomex_samples.proofs.Ordered.{in_order_no, in_order_yes}
use Rattle.tomex_samples.proofs.leaders.in_order.Goals as goal
use Rattle.tomex_samples.proofs.leaders.in_order.Goals.{then-contains+in_ok-push, else-contains}

pub loop-k-preserved : goal.loop-k-preserved
loop-k-preserved g c = elim c.if-contains.branch [
  | then-contains+in_ok-push w ↦
      ap (λ v. v.items) w.ordered-is ∙ (w.in_ok-push.ensures.items
      ∙ in_order_yes c.loop-k.k-counter c.args.numbers.now c.loop-k.ordered.items c.loop-k.invariant (sym
      c.contains.ensures.value ∙ w.if-contains.true))
  | else-contains w ↦
      ap (λ v. v.items) w.ordered-is
      ∙ in_order_no c.loop-k.k-counter c.args.numbers.now c.loop-k.ordered.items c.loop-k.invariant (sym
      c.contains.ensures.value ∙ w.if-contains.false)
]
