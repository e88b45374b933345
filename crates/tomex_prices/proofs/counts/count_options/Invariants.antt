-- The relevant ones of the prices so far.
use Rattle.std.proofs.Common.{◌≡◌, ◌*◌, ◌≤◌, length, take}
use Rattle.std.specs.List.{filter, flat_map}
use Rattle.tomex_config.specs.Cost.{all_units}
use Rattle.tomex_prices.specs.Prices.{choices_of, is_relevant}
use Rattle.tomex_prices.proofs.counts.count_options.Given as goal

abbrev pub invariant-loop-unit : goal.invariant-loop-unit
invariant-loop-unit l = record {
  count : l.count ≡ length (filter (is_relevant l.rows) (flat_map (choices_of l.rows) (take l.unit-index all_units)));
  few : l.count ≤ l.unit-index * 16384;
}
