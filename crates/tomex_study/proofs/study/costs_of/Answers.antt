-- One more configuration has its cost, and its law says that it is within the limits.
use Rattle.std.proofs.Common.{◌∙◌, ap, map}
use Rattle.std.proofs.lemmas.List.{take_all}
use Rattle.tomex_config.specs.Configuration.{Configuration, IsWithinLimits}
use Rattle.tomex_config.specs.Cost.{cost_of}
use Rattle.tomex_study.proofs.Each.{one_mapped, one_more, all_of}
use Rattle.tomex_study.proofs.study.costs_of.Goals as goal

pub loop-config-preserved : goal.loop-config-preserved
loop-config-preserved g c = record {
  costs = one_mapped (λ (config : Configuration). cost_of config c.args.prices.now) _ c.loop-config.config-index
      c.config-item.result _ _ _ c.loop-config-test.true c.in_ok-push.ensures.items c.cost.ensures.cost c.config-item.is
      c.loop-config.invariant.costs;
  limits = one_more IsWithinLimits _ c.loop-config.config-index c.config-item.result c.loop-config-test.true
      c.loop-config.invariant.limits c.config-item.is c.keeps_limits.ensures;
}

pub returns-clause-costs : goal.returns-clause-costs
returns-clause-costs g c =
    c.loop-config.invariant.costs
    ∙ ap (map (λ (config : Configuration). cost_of config c.args.prices.now))
    (take_all c.loop-config.config-index c.args.rows.now c.loop-config-test.false)

pub returns-clause-limits : goal.returns-clause-limits
returns-clause-limits g c =
    all_of IsWithinLimits _ c.loop-config.config-index c.loop-config-test.false c.loop-config.invariant.limits
