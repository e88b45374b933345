-- The least price so far, and of the remaining rows.
use Rattle.std.proofs.Common.{◌≡◌, ◌≤◌, drop, None}
use Rattle.std.specs.Prelude.{IfSome}
use Rattle.tomex_survey.proofs.Leasts.{least_by}
use Rattle.tomex_choices.proofs.Options.{is_such, price_of}
use Rattle.tomex_choices.proofs.entries.least_price.Given as goal

abbrev pub invariant-loop-config : goal.invariant-loop-config
invariant-loop-config l = record {
  least : least_by (is_such l.unit l.latency l.units) (price_of l.unit) l.least (drop l.config-index l.rows)
      ≡ least_by (is_such l.unit l.latency l.units) (price_of l.unit) None l.rows;
  range : IfSome l.least (λ n. n ≤ 1000000);
}
