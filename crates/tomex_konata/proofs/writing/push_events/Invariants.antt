-- The text so far, and that of the remaining events. No more steps have gone out than there were events.
use Rattle.std.proofs.Common.{◌≡◌, ◌≤◌, ◌++◌, drop}
use Rattle.std.specs.Prelude.{string_bytes}
use Rattle.tomex_konata.specs.Kept.{events_text}
use Rattle.tomex_konata.proofs.writing.push_events.Given as goal

abbrev pub invariant-loop-event : goal.invariant-loop-event
invariant-loop-event g l = record {
  few : l.gone ≤ l.event-index;
  text : string_bytes l.text ++ events_text l.number l.entries l.since l.gone (drop l.event-index l.events)
      ≡ string_bytes l.fn.text ++ events_text l.number l.entries l.first 0 l.events;
}
