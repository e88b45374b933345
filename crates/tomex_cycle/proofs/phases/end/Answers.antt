use Rattle.tomex_cycle.proofs.Words.{front, refl}
use Rattle.tomex_cycle.specs.Ends.{sent_below}
use Rattle.tomex_cycle.specs.Starts.{AreLow}
use Rattle.tomex_cycle.proofs.Cycles.{due_happens, end_happens, not_zero}
use Rattle.tomex_cycle.proofs.EndsFetch.{ending_low, made_ends, ends_none, none_followed, none_over}
use Rattle.tomex_cycle.proofs.KnownEnds.{all_due, ending_none, leaves_none}
use Rattle.tomex_cycle.proofs.phases.end.Goals as goal

pub returns-then-finishes-eq0-clause-ends : goal.returns-then-finishes-eq0-clause-ends
returns-then-finishes-eq0-clause-ends c =
    ends_none c.args.config.now 0 (front c.args.pools.now c.args.registers.now c.args.fetch.now) (ending_none
    c.args.pools.now c.args.config.now.buses c.keeps_places.ensures.busy
    (record { before = c.args.finishes.now; known = c.requires.timetable; turned = c.turn-due.ensures })
    c.if-due-eq0.true c.if-finishes-eq0.true) c.keeps_places.ensures.busy (none_followed c.args.cycle c.turn-due.result
    c.args.pools.now.slots c.args.fetch.now (all_due c.requires.timetable c.turn-due.ensures) c.if-due-eq0.true) refl

pub returns-then-finishes-eq0-clause-timetable : goal.returns-then-finishes-eq0-clause-timetable
returns-then-finishes-eq0-clause-timetable c = none_over c.args.pools.now.slots c.args.cycle 0 c.turn-due.new.self
    c.requires.timetable.places (leaves_none c.args.pools.now c.args.config.now.buses c.keeps_places.ensures.busy
    (record { before = c.args.finishes.now; known = c.requires.timetable; turned = c.turn-due.ensures })
    c.if-due-eq0.true c.if-finishes-eq0.true) refl

pub choose_ending-chosen-requires : goal.choose_ending-chosen-requires
choose_ending-chosen-requires c = record {
  timetable = record { before = c.args.finishes.now; known = c.requires.timetable; turned = c.turn-due.ensures };
  some = c.buses.ensures.range.0;
}

pub returns-then-chosen-eq0-clause-ends : goal.returns-then-chosen-eq0-clause-ends
returns-then-chosen-eq0-clause-ends c = ends_none c.args.config.now c.choose_ending-chosen.result.ending
    (front c.args.pools.now c.args.registers.now c.args.fetch.now)
    (rw c.buses.ensures.count at c.choose_ending-chosen.ensures.ending)
    c.choose_ending-chosen.ensures.busy c.follow.ensures c.if-chosen-eq0.true

pub returns-then-chosen-eq0-clause-any : goal.returns-then-chosen-eq0-clause-any
returns-then-chosen-eq0-clause-any c = λ some i h t e up shown. due_happens t c.args.cycle
    c.choose_ending-chosen.result.due shown c.choose_ending-chosen.ensures.due c.choose_ending-chosen.ensures.fits.0
    (not_zero c.choose_ending-chosen.result.due some)

pub returns-then-chosen-eq0-clause-timetable : goal.returns-then-chosen-eq0-clause-timetable
returns-then-chosen-eq0-clause-timetable c = none_over c.args.pools.now.slots c.args.cycle
    c.choose_ending-chosen.result.ending c.choose_ending-chosen.new.finishes c.choose_ending-chosen.ensures.busy.places
    c.choose_ending-chosen.ensures.timetable c.if-chosen-eq0.true

pub returns-clause-ends : goal.returns-clause-ends
returns-clause-ends c = made_ends c.args.config.now (front c.args.pools.now c.args.registers.now c.args.fetch.now)
    c.choose_ending-chosen.result.ending (rw c.buses.ensures.count at c.choose_ending-chosen.ensures.ending)
    c.choose_ending-chosen.ensures.busy c.follow.ensures c.apply.ensures.stations c.apply.ensures.registers

pub returns-clause-any : goal.returns-clause-any
returns-clause-any c = λ some i h t e up shown. end_happens c.choose_ending-chosen.result.ending up
    shown c.choose_ending-chosen.ensures.busy (rw c.buses.ensures.count at c.choose_ending-chosen.ensures.ending) e
    c.choose_ending-chosen.ensures.fits.1 c.if-chosen-eq0.false

pub returns-clause-timetable : goal.returns-clause-timetable
returns-clause-timetable c =
    let low : AreLow c.choose_ending-chosen.result.ending = λ x l e. ending_low c.args.pools.now c.args.config.now.buses
    c.args.cycle c.choose_ending-chosen.result.ending (rw c.buses.ensures.count at
    c.choose_ending-chosen.ensures.ending) c.choose_ending-chosen.ensures.busy x l e in
    let after = c.apply.ensures.stations low c.choose_ending-chosen.ensures.busy.places in
    c.choose_ending-chosen.ensures.timetable c.apply.new.pools.slots
    (sent_below c.args.pools.now.slots c.choose_ending-chosen.result.ending 96) after.places after.slots
