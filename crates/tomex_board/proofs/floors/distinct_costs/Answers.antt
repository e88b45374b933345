-- A cost that is remembered is among the rising ones already.
use Rattle.tomex_board.proofs.Gathering.{none_gathered}
use Rattle.tomex_board.proofs.floors.distinct_costs.Goals as goal
use Rattle.tomex_board.proofs.floors.distinct_costs.Goals.{then-ne+in_ok-insert, else-ne}
use Rattle.std.proofs.Common.{refl, rules, subst, List, ◌≡◌, ℕ, IfOk}
use Rattle.tomex_board.proofs.Gathering.{all_gathered, one_gathered, is_remembered, one_known}

pub loop-cost-init : goal.loop-cost-init
loop-cost-init g c = rw c.new-rising.ensures.empty (none_gathered _ _ refl tt)

pub loop-cost-preserved : goal.loop-cost-preserved
loop-cost-preserved g c = elim c.if-ne.branch [
  | then-ne+in_ok-insert w ↦
      rw (w.rising-is, w.latest-is, w.in_ok-insert.ensures.keys)
      (one_gathered c.args.costs.now c.loop-cost.cost-index _ c.loop-cost.rising.keys c.loop-cost.latest (search rules)
      (search rules) c.loop-cost.invariant)
  | else-ne w ↦
      rw (w.rising-is, w.latest-is)
      (one_known c.args.costs.now c.loop-cost.cost-index _ c.loop-cost.rising.keys c.loop-cost.latest (search rules)
      (is_remembered _ _ w.if-ne.ensures) c.loop-cost.invariant)
]

pub returns : goal.returns
returns g c =
    subst (λ (l : List ℕ). IfOk c.list_of.result (λ v. v.items ≡ l))
    (all_gathered c.args.costs.now c.loop-cost.cost-index _ _ (search rules) c.loop-cost.invariant) c.list_of.ensures
