-- The text so far, and the entries to come.
use Rattle.std.proofs.Common.{◌≡◌, ◌++◌, drop}
use Rattle.std.specs.Prelude.{string_bytes}
use Rattle.std.specs.List.{flat_map}
use Rattle.tomex_frames.specs.Events.{event_text}
use Rattle.tomex_frames.proofs.events.push_all_events.Given as goal

abbrev pub invariant-loop-event : goal.invariant-loop-event
invariant-loop-event g l =
    let cycle = l.view.cycle in
    let entries = l.view.entries.now in
    string_bytes l.text
    ++ flat_map (event_text l.values.steps.now l.values.last.now cycle entries) (drop l.event-index l.events)
    ≡ string_bytes l.fn.text ++ flat_map (event_text l.values.steps.now l.values.last.now cycle entries) l.events
