use Rattle.std.proofs.lemmas.Grind.{common_steps}
use Rattle.std.proofs.Common.{◌<◌, ◌∙◌, List, arith, length, subst, sym, ℕ}
use Rattle.std.proofs.lemmas.List.{take_more}
use Rattle.tomex_samples.specs.Near.{AreNearest}
use Rattle.tomex_samples.proofs.leaders.nearest_of.Goals as goal

pub loop-leader-preserved : goal.loop-leader-preserved
loop-leader-preserved g c =
    let i = c.loop-leader.leader-index in
    let here : i < length c.args.leaders.now = omega arith in
    record {
      number = c.in_ok-approach.ensures.number ∙ c.loop-leader.invariant.number;
      nearest = λ run of.
          subst (λ (ls : List ℕ). AreNearest run ls c.approach.new.near.items)
          (sym (take_more c.args.leaders.now i 0 here))
          (c.in_ok-approach.ensures.near run _ of (c.loop-leader.invariant.nearest run of));
    }

pub loop-leader-init : goal.loop-leader-init
loop-leader-init = grind (arith, common_steps)

pub returns : goal.returns
returns = grind (arith, common_steps)
