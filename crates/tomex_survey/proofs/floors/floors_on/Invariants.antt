-- The floors of the programs so far, and of the remaining ones; they are small.
use Rattle.std.proofs.Common.{◌≡◌, ◌+◌, ◌*◌, ◌≤◌, drop}
use Rattle.std.specs.Prelude.{sum_by}
use Rattle.tomex_survey.specs.Floors.{floor_at, weighted_floor}
use Rattle.tomex_survey.proofs.floors.floors_on.Given as goal

abbrev pub invariant-loop-place : goal.invariant-loop-place
invariant-loop-place g l = record {
  runs : l.floored.items ≡ l.fn.floored.items;
  own : l.own + sum_by (weighted_floor l.config.width l.config) (drop l.place l.programs)
      ≡ floor_at l.programs l.config.width l.config;
  any_width : l.any_width + sum_by (weighted_floor 4 l.config) (drop l.place l.programs)
      ≡ floor_at l.programs 4 l.config;
  small_own : l.own ≤ l.place * 17563648000;
  small_any_width : l.any_width ≤ l.place * 17563648000;
}
