-- One more row, and the last one.
use Rattle.std.proofs.Common.{arith}
use Rattle.std.proofs.lemmas.Bool.Decides.{nat_tests}
use Rattle.tomex_choices.proofs.Options.{all_units_at, more_units_at}
use Rattle.tomex_choices.proofs.entries.greatest_units.Goals as goal
use Rattle.tomex_choices.proofs.entries.greatest_units.Goals.{else-from-latency, then-from-latency}

pub loop-config-preserved : goal.loop-config-preserved
loop-config-preserved c =
    more_units_at c.args.rows.now c.args.unit c.args.latency c.loop-config.config-index c.loop-config.greatest _
    c.config-item.result c.loop-config-test.true c.config-item.is
    (elim c.if-from-latency.branch [
      | then-from-latency w ↦ grind (arith, nat_tests)
      | else-from-latency w ↦ grind (arith, nat_tests)
    ])
    c.loop-config.invariant

pub returns : goal.returns
returns c =
    all_units_at c.args.rows.now c.args.unit c.args.latency c.loop-config.config-index c.loop-config.greatest
    c.loop-config-test.false c.loop-config.invariant
