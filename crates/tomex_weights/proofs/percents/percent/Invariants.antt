-- The least of the rivals so far, and of the remaining ones.
use Rattle.std.proofs.Common.{◌≡◌, ◌≤◌, drop}
use Rattle.std.specs.Prelude.{min}
use Rattle.tomex_pareto.specs.Percent.{least_of}
use Rattle.tomex_weights.specs.Percent.{percent_for}
use Rattle.tomex_weights.proofs.percents.percent.Given as goal

abbrev pub invariant-loop-rival : goal.invariant-loop-rival
invariant-loop-rival g l = record {
  least : min l.least (least_of (percent_for l.surveyed l.row) (drop l.rival-index l.rival-items))
      ≡ least_of (percent_for l.surveyed l.row) l.rival-items;
  few : l.least ≤ 100;
}
