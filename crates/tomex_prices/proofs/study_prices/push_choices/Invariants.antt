-- The prices so far, and those of options that only remaining rows have.
use Rattle.std.proofs.Common.{◌≡◌, ◌++◌, drop, map, take}
use Rattle.tomex_prices.specs.declared.price.Price.TheVariants.{Choice}
use Rattle.tomex_prices.specs.Prices.{choices_of}
use Rattle.tomex_prices.proofs.FirstOptions.{new_options}
use Rattle.tomex_prices.proofs.study_prices.push_choices.Given as goal

abbrev pub invariant-loop-place : goal.invariant-loop-place
invariant-loop-place g l =
    l.prices.items ++ map (Choice l.unit) (new_options l.unit (take l.place l.rows) (drop l.place l.rows))
    ≡ l.fn.prices.items ++ choices_of l.rows l.unit
