-- Both lists are the worker's rows, and there is nobody to steal from.
use Rattle.std.proofs.Common.{◌∙◌, sym, subst, All}
use Rattle.std.proofs.lemmas.List.Elements.{All-nil}
use Rattle.tomex_lanes.specs.Lanes.{AreBelow}
use Rattle.tomex_lanes.proofs.Dealing.{rows_of-below}
use Rattle.tomex_lanes.proofs.lane.Lane.new.Goals as goal

pub invariant_of-result : goal.invariant_of-result
invariant_of-result g c = (
  c.in_ok-own.ensures ∙ sym c.in_ok-rows.ensures,
  subst (AreBelow c.args.count) (sym c.in_ok-rows.ensures) (rows_of-below c.args.workers c.args.worker c.args.count),
  subst (All (λ rows. AreBelow c.args.count rows)) (sym c.new-others.ensures.items)
      (All-nil (λ rows. AreBelow c.args.count rows)),
)
