-- The prices so far.
use Rattle.std.proofs.Common.{◌≡◌, ◌++◌, take}
use Rattle.std.specs.List.{flat_map}
use Rattle.tomex_config.specs.Cost.{all_units}
use Rattle.tomex_prices.specs.Prices.{choices_of}
use Rattle.tomex_prices.proofs.study_prices.push_options.Given as goal

abbrev pub invariant-loop-unit : goal.invariant-loop-unit
invariant-loop-unit g l =
    l.prices.items ≡ l.fn.prices.items ++ flat_map (choices_of l.rows) (take l.unit-index all_units)
