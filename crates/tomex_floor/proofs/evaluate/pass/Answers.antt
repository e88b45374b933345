-- The latest cycles are those after the step's times.
use Rattle.std.proofs.Common.{◌<◌, subst}
use Rattle.std.specs.Prelude.{IfSome}
use Rattle.tomex_timing.specs.declared.recent.Facts.{Facts}
use Rattle.tomex_floor.specs.Floor.{floor_times}
use Rattle.tomex_config.specs.Configuration.{latency_of}
use Rattle.tomex_floor.proofs.Turns.{latest_more}
use Rattle.tomex_floor.proofs.evaluate.pass.Goals as goal

pub returns-clause-latest : goal.returns-clause-latest
returns-clause-latest c = λ h s facts is conflict.
    let at = c.next_times-at.ensures h s facts is conflict in
    let low = subst (λ (f : Facts). IfSome f.dest (λ r. r < 32)) facts c.requires.range.dest in
    rw (c.note.ensures, facts, at)
    (latest_more h s (floor_times (latency_of c.args.config.now) c.args.width h s) c.args.latest.now low is)
