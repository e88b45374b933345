-- The least floors so far, and of the remaining rows.
use Rattle.std.proofs.Common.{◌≡◌, drop, None, true}
use Rattle.std.specs.Prelude.{option_map}
use Rattle.tomex_survey.specs.Floors.{floor_at}
use Rattle.tomex_survey.proofs.Leasts.{least_by}
use Rattle.tomex_survey.proofs.floors.least_floors.Given as goal

abbrev pub invariant-loop-config : goal.invariant-loop-config
invariant-loop-config g l = record {
  runs : l.floored.items ≡ l.fn.floored.items;
  own : least_by (λ c. true) (λ c. floor_at l.study.programs c.width c) (option_map (λ f. f.own) l.least)
      (drop l.config-index l.config-items)
      ≡ least_by (λ c. true) (λ c. floor_at l.study.programs c.width c) None l.config-items;
  any_width : least_by (λ c. true) (floor_at l.study.programs 4) (option_map (λ f. f.any_width) l.least)
      (drop l.config-index l.config-items)
      ≡ least_by (λ c. true) (floor_at l.study.programs 4) None l.config-items;
}
