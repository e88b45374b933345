-- One more event.
use Rattle.std.proofs.Common.{refl}
use Rattle.std.proofs.lemmas.Option.{slice_get_read}
use Rattle.tomex_konata.specs.declared.events.Event.{Event}
use Rattle.tomex_konata.specs.declared.events.Kind.TheVariants.{Change}
use Rattle.tomex_konata.proofs.Turns.{all_written, event_more, few_gone, next}
use Rattle.tomex_konata.proofs.writing.push_events.Goals as goal

abbrev no_event : Event
no_event = record { cycle = 0; kind = Change; id = 0 }

pub loop-event-preserved : goal.loop-event-preserved
loop-event-preserved g c =
    let index = c.loop-event.event-index in
    let events = next c.args.events.now index _ no_event c.loop-event-test.true refl in
    let entry = slice_get_read c.args.entries.now _ _ c.index-entries-event.result refl
    (c.requires.there index _ c.loop-event-test.true) c.index-entries-event.is in
    record {
      few = few_gone c.loop-event.gone _ index _ c.steps_out_after-gone.ensures c.loop-event.invariant.few;
      text = event_more c.args.number c.args.entries.now c.args.events.now index c.loop-event.since c.loop-event.gone _
          events entry (rw c.clear.ensures.bytes at c.in_ok-push_event.ensures)
          (rw c.as_str.ensures.value at c.in_ok-since.ensures.text)
          (rw c.as_str.ensures.value at c.in_ok-since.ensures.since)
          c.steps_out_after-gone.ensures c.loop-event.invariant.text;
    }

pub returns : goal.returns
returns g c =
    all_written c.args.number c.args.entries.now c.args.events.now c.loop-event.event-index _ _ _ _
    c.loop-event-test.false c.loop-event.invariant.text
