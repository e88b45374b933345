-- The options of the kinds so far are in the total.
use Rattle.std.proofs.Common.{◌≡◌, ◌*◌, ◌≤◌, take, sum_by}
use Rattle.tomex_config.specs.Configuration.{option_of}
use Rattle.tomex_config.specs.Cost.{all_units}
use Rattle.tomex_config.proofs.price.options_cost.Given as goal

abbrev pub invariant-loop-unit : goal.invariant-loop-unit
invariant-loop-unit l = record {
  cost : l.total ≡ sum_by (λ unit. (option_of l.config unit).price) (take l.unit-index all_units);
  bound : l.total ≤ l.unit-index * 1000000;
}
