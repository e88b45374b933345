use Rattle.std.proofs.Common.{arith}
use Rattle.std.proofs.lemmas.Grind.{common_steps}
use Rattle.tomex_cycle.proofs.Words.{◌∙◌, refl, sym}
use Rattle.tomex_cycle.proofs.Known.{known_started}
use Rattle.tomex_membuf.proofs.Older.{no_option}
use Rattle.tomex_cycle.proofs.starts.begin_at.Goals as goal

pub returns-in-Some-outcome-clause-timetable : goal.returns-in-Some-outcome-clause-timetable
returns-in-Some-outcome-clause-timetable g c = λ none.
    let at = sym c.at.ensures.value ∙ c.in-Some.is in
    let idle = no_option c.in-Some.station.finish (sym c.is_some.ensures ∙ c.if-is_some.false) in
    rw (c.start.ensures.slots, at, c.from.ensures) (known_started c.args.place c.in-Some-outcome.latency
    c.in-Some-outcome.value c.in-Some.station c.put.new.self (c.in-Some.ensures.low refl) c.requires.timetable at idle
    c.in-Some-outcome.ensures.range (rw c.from-in-Some-outcome.ensures at c.put.ensures))

pub put-requires-clause-low : goal.put-requires-clause-low
put-requires-clause-low = grind (arith, common_steps)
