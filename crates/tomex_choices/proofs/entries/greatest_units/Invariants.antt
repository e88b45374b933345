-- The most units so far, and of the remaining rows.
use Rattle.std.proofs.Common.{◌≡◌, drop}
use Rattle.std.specs.Prelude.{max}
use Rattle.tomex_choices.specs.NewMachines.{greatest_units}
use Rattle.tomex_choices.proofs.entries.greatest_units.Given as goal

abbrev pub invariant-loop-config : goal.invariant-loop-config
invariant-loop-config l =
    max l.greatest (greatest_units (drop l.config-index l.rows) l.unit l.latency)
    ≡ greatest_units l.rows l.unit l.latency
