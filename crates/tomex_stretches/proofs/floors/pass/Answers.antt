-- The record is that of one more step on the floor.
use Rattle.std.proofs.Common.{◌<◌, subst}
use Rattle.std.specs.Prelude.{IfSome}
use Rattle.tomex_config.specs.Configuration.{latency_of}
use Rattle.tomex_floor.specs.Floor.{floor_times}
use Rattle.tomex_timing.specs.declared.recent.Facts.{Facts}
use Rattle.tomex_stretches.proofs.Turns.{latest_by, latest_more}
use Rattle.tomex_stretches.proofs.floors.pass.Goals as goal

pub returns-clause-latest : goal.returns-clause-latest
returns-clause-latest g c = λ h s facts is touched.
    let at = c.next_times-at.ensures.times h s facts is (c.conflict-conflict.ensures.conflict c.args.latest.now.base h s
    facts touched) in
    let low = subst (λ (f : Facts). IfSome f.dest (λ r. r < 32)) facts c.requires.range.dest in
    rw (c.note-2.ensures, facts)
    (latest_more h s c.next_times-at.result (floor_times (latency_of c.args.config.now) c.args.width h s)
    c.args.latest.now low is at)

pub returns-clause-by : goal.returns-clause-by
returns-clause-by g c = rw c.note-2.ensures (latest_by c.args.facts.now c.next_times-at.result c.args.latest.now
    c.requires.range.dest c.requires.by c.next_times-at.ensures.order.0 c.next_times-at.ensures.order.1)
