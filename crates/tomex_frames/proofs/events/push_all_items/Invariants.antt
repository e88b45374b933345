-- The text so far, and the items of the steps to come.
use Rattle.std.proofs.Common.{◌≡◌, ◌++◌, drop}
use Rattle.std.specs.Prelude.{string_bytes}
use Rattle.std.specs.List.{flat_map}
use Rattle.tomex_frames.specs.Events.{item_if}
use Rattle.tomex_frames.proofs.events.push_all_items.Given as goal

abbrev pub invariant-loop-entry : goal.invariant-loop-entry
invariant-loop-entry g l =
    let cycle = l.view.cycle in
    let entries = l.view.entries.now in
    string_bytes l.text
    ++ flat_map (item_if l.values.steps.now l.values.last.now cycle entries l.event) (drop l.entry-index entries)
    ≡ string_bytes l.fn.text ++ flat_map (item_if l.values.steps.now l.values.last.now cycle entries l.event) entries
