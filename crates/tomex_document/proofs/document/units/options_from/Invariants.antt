-- The options so far, then those of the remaining values.
use Rattle.std.proofs.Common.{◌≡◌, ◌+◌, drop}
use Rattle.toml.specs.View.{items_view}
use Rattle.tomex_values.specs.Readings.{with_front}
use Rattle.tomex_document.specs.Units.{options_from}
use Rattle.tomex_document.proofs.document.units.options_from.Given as goal

abbrev pub invariant-loop-value : goal.invariant-loop-value
invariant-loop-value g l =
    (l.number ≡ 1 + l.value-index)
    × (with_front l.options.items (options_from l.unit l.number (items_view (drop l.value-index l.values)))
    ≡ options_from l.unit 1 (items_view l.values))
