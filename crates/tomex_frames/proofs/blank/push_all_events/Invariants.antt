-- The text so far, and the events to come.
use Rattle.std.proofs.Common.{◌≡◌, ◌++◌, drop}
use Rattle.std.specs.Prelude.{string_bytes}
use Rattle.std.specs.List.{flat_map}
use Rattle.tomex_frames.specs.Blank.{blank_event}
use Rattle.tomex_frames.proofs.blank.push_all_events.Given as goal

abbrev pub invariant-loop-event : goal.invariant-loop-event
invariant-loop-event g l =
    string_bytes l.text ++ flat_map blank_event (drop l.event-index l.events)
    ≡ string_bytes l.fn.text ++ flat_map blank_event l.events
