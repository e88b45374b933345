-- One more row, and the last one.
use Rattle.std.proofs.Common.{◌∙◌, ap, ℕ, List, Some, arith}
use Rattle.std.proofs.lemmas.Grind.{common_steps}
use Rattle.std.specs.Prelude.{option_map}
use Rattle.tomex_study.specs.Program.{Workload}
use Rattle.tomex_survey.specs.Extremes.{lesser}
use Rattle.tomex_survey.specs.Floors.{floor_at}
use Rattle.tomex_survey.specs.declared.floors.WeightedFloors.{WeightedFloors}
use Rattle.tomex_survey.proofs.FloorSums.{any_width_of, least_any_width, least_more, least_own, own_of}
use Rattle.tomex_survey.proofs.floors.least_floors.Goals as goal

pub loop-config-preserved : goal.loop-config-preserved
loop-config-preserved g c =
    let s = c.args.study.now in
    let x = c.config-item.result in
    record {
      runs = c.in_ok-floors.ensures.runs ∙ c.loop-config.invariant.runs;
      own = least_more (λ z. floor_at s.programs z.width z) (option_map (λ f. f.own) c.loop-config.least) _
          c.rows-config-items.result.now c.loop-config.config-index x _ c.loop-config-test.true c.config-item.is
          (ap (λ (n : ℕ). Some n) (c.lesser_floors.ensures.own
          ∙ ap (λ (n : ℕ). lesser n (option_map (λ f. f.own) c.loop-config.least)) (c.in_ok-floors.ensures.own
          ∙ ap (λ (ps : List Workload). floor_at ps x.width x) c.programs.ensures.value)))
          c.loop-config.invariant.own;
      any_width = least_more (floor_at s.programs 4) (option_map (λ f. f.any_width) c.loop-config.least) _
          c.rows-config-items.result.now c.loop-config.config-index x _ c.loop-config-test.true c.config-item.is
          (ap (λ (n : ℕ). Some n) (c.lesser_floors.ensures.any_width
          ∙ ap (λ (n : ℕ). lesser n (option_map (λ f. f.any_width) c.loop-config.least))
          (c.in_ok-floors.ensures.any_width
          ∙ ap (λ (ps : List Workload). floor_at ps 4 x) c.programs.ensures.value)))
          c.loop-config.invariant.any_width;
    }

pub returns-clause-own : goal.returns-clause-own
returns-clause-own g c =
    ap (λ (f : WeightedFloors). f.own) c.unwrap_or.ensures
    ∙ (own_of c.loop-config.least
    ∙ least_own c.args.study.now c.rows-config-items.result.now c.loop-config.config-index c.loop-config.least
    c.rows-config-items.ensures.value c.loop-config-test.false c.loop-config.invariant.own)

pub returns-clause-any_width : goal.returns-clause-any_width
returns-clause-any_width g c =
    ap (λ (f : WeightedFloors). f.any_width) c.unwrap_or.ensures
    ∙ (any_width_of c.loop-config.least
    ∙ least_any_width c.args.study.now c.rows-config-items.result.now c.loop-config.config-index c.loop-config.least
    c.rows-config-items.ensures.value c.loop-config-test.false c.loop-config.invariant.any_width)

pub floors_on-requires : goal.floors_on-requires
floors_on-requires = grind (arith, common_steps)
