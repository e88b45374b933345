-- The relevant ones of the prices so far, and those of options that only remaining rows have.
use Rattle.std.proofs.Common.{◌≡◌, ◌+◌, ◌≤◌, drop, length, map, take}
use Rattle.std.specs.List.{filter}
use Rattle.tomex_prices.specs.Prices.{choices_of, is_relevant}
use Rattle.tomex_prices.specs.declared.price.Price.TheVariants.{Choice}
use Rattle.tomex_prices.proofs.FirstOptions.{new_options}
use Rattle.tomex_prices.proofs.counts.count_choices.Given as goal

abbrev pub invariant-loop-place : goal.invariant-loop-place
invariant-loop-place l = record {
  count : l.count
      + length (filter (is_relevant l.rows)
      (map (Choice l.unit) (new_options l.unit (take l.place l.rows) (drop l.place l.rows))))
      ≡ length (filter (is_relevant l.rows) (choices_of l.rows l.unit));
  few : l.count ≤ l.place;
}
