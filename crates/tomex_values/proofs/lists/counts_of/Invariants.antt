-- The counts so far, then those of the remaining values.
use Rattle.std.proofs.Common.{◌≡◌, drop}
use Rattle.toml.specs.View.{items_view}
use Rattle.tomex_values.specs.Readings.{with_front}
use Rattle.tomex_values.specs.Numbers.{between, number_of}
use Rattle.tomex_values.specs.Lists.{each}
use Rattle.tomex_values.proofs.lists.counts_of.Given as goal

abbrev pub invariant-loop-value : goal.invariant-loop-value
invariant-loop-value g l =
    with_front l.counts.items (each (number_of l.place l.key (between 1 l.most))
    (items_view (drop l.value-index l.values)))
    ≡ each (number_of l.place l.key (between 1 l.most)) (items_view l.values)
