-- The costs so far; their configurations are within the limits.
use Rattle.std.proofs.Common.{◌≡◌, All, map, take}
use Rattle.tomex_config.specs.Configuration.{IsWithinLimits}
use Rattle.tomex_config.specs.Cost.{cost_of}
use Rattle.tomex_study.proofs.study.costs_of.Given as goal

abbrev pub invariant-loop-config : goal.invariant-loop-config
invariant-loop-config g l = record {
  costs : l.costs.items ≡ map (λ config. cost_of config l.prices) (take l.config-index l.rows);
  limits : All IsWithinLimits (take l.config-index l.rows);
}
