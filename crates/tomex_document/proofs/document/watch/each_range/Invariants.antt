-- The ranges so far, all inside the window, then those of the remaining values.
use Rattle.std.proofs.Common.{◌≡◌, ◌≤◌, true, drop, length, All}
use Rattle.toml.specs.View.{items_view}
use Rattle.tomex_values.specs.Readings.{with_front}
use Rattle.tomex_values.specs.Lists.{each}
use Rattle.tomex_study.specs.Watch.{is_watchable}
use Rattle.tomex_document.specs.Watch.{range_of}
use Rattle.tomex_document.proofs.document.watch.each_range.Given as goal

abbrev pub invariant-loop-value : goal.invariant-loop-value
invariant-loop-value g l =
    (with_front l.ranges.items (each (range_of l.place l.window) (items_view (drop l.value-index l.values)))
    ≡ each (range_of l.place l.window) (items_view l.values))
    × (length l.ranges.items ≤ l.value-index)
    × (All (λ r. is_watchable l.window r ≡ true) l.ranges.items)
