-- The units of the kinds so far are in the list.
use Rattle.std.proofs.Common.{◌≡◌, ◌++◌, take}
use Rattle.std.specs.List.{flat_map}
use Rattle.tomex_config.specs.Cost.{all_units}
use Rattle.tomex_texts.specs.FrontReport.{unit_numbers}
use Rattle.tomex_texts.proofs.row_numbers.push_units.Given as goal

abbrev pub invariant-loop-unit : goal.invariant-loop-unit
invariant-loop-unit l =
    l.numbers.items ≡ l.fn.numbers.items ++ flat_map (unit_numbers l.config) (take l.unit-index all_units)
