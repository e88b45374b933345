-- No program yet, and one program more.
use Rattle.std.proofs.lemmas.Grind.{common_steps}
use Rattle.std.proofs.Common.{◌∙◌, ℕ, ◌+◌, ap, arith, refl}
use Rattle.tomex_survey.specs.Floors.{weighted_floor}
use Rattle.tomex_survey.proofs.FloorSums.{no_sum, same_again, sum_more}
use Rattle.tomex_survey.proofs.floors.floors_on.Goals as goal

pub loop-place-init : goal.loop-place-init
loop-place-init g c = record {
  runs = refl;
  own = no_sum c.args.programs.now c.args.config.now.width c.args.config.now 0 refl;
  any_width = no_sum c.args.programs.now 4 c.args.config.now 0 refl;
  small_own = omega arith;
  small_any_width = omega arith;
}

pub loop-place-preserved : goal.loop-place-preserved
loop-place-preserved g c = record {
  runs = same_again c.loop-place.floored.items _ c.loop-place.place c.index_mut.result.now
      c.weighted_floors.new.floored c.index_mut.ensures.value c.in_ok-floors.ensures.run refl
      ∙ c.loop-place.invariant.runs;
  own = sum_more (weighted_floor c.args.config.now.width c.args.config.now) c.args.programs.now c.loop-place.place
      c.loop-place.own _ _ c.index-programs-place.result c.loop-place-test.true c.index-programs-place.is
      (ap (λ (n : ℕ). c.loop-place.own + n) c.in_ok-floors.ensures.own) c.loop-place.invariant.own;
  any_width = sum_more (weighted_floor 4 c.args.config.now) c.args.programs.now c.loop-place.place
      c.loop-place.any_width _ _ c.index-programs-place.result c.loop-place-test.true c.index-programs-place.is
      (ap (λ (n : ℕ). c.loop-place.any_width + n) c.in_ok-floors.ensures.any_width) c.loop-place.invariant.any_width;
  small_own = omega (arith, c.loop-place.invariant.small_own, c.in_ok-floors.ensures.range.0);
  small_any_width = omega (arith, c.loop-place.invariant.small_any_width, c.in_ok-floors.ensures.range.1);
}

pub returns-clause-any_width : goal.returns-clause-any_width
returns-clause-any_width = grind (arith, common_steps)

pub returns-in_err-floors-clause-runs : goal.returns-in_err-floors-clause-runs
returns-in_err-floors-clause-runs = grind (arith, common_steps)

pub returns-clause-own : goal.returns-clause-own
returns-clause-own = grind (arith, common_steps)
