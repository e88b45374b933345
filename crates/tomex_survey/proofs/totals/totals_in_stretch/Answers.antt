-- The totals on one more row.
use Rattle.std.proofs.lemmas.Grind.{common_steps}
use Rattle.std.proofs.Common.{◌<◌, ◌∙◌, arith, length, take}
use Rattle.std.proofs.lemmas.Option.{slice_get-get_or}
use Rattle.tomex_config.specs.Configuration.{plain}
use Rattle.tomex_study.specs.Cycles.{totals_on}
use Rattle.tomex_survey.proofs.Neighbours.{all_in_stretch, none_in_stretch, one_in_stretch}
use Rattle.tomex_survey.proofs.totals.totals_in_stretch.Goals as goal

pub loop-row-init : goal.loop-row-init
loop-row-init g c = record {
  programs = c.in_ok-knowledge.ensures.programs ∙ c.programs.ensures.value;
  totals = none_in_stretch (take (length c.args.study.now.programs)) (totals_on c.args.study.now.programs)
      c.args.study.now.rows _ c.args.stretch.first c.in_ok-totals.ensures.items;
}

pub loop-row-preserved : goal.loop-row-preserved
loop-row-preserved g c =
    let low : c.loop-row.row < length c.args.study.now.rows = omega (arith, c.loop-row-test.true) in
    record {
      programs = c.in_ok-totals_on_row.ensures.programs ∙ c.loop-row.invariant.programs;
      totals = one_in_stretch (take (length c.args.study.now.programs)) (totals_on c.args.study.now.programs)
          c.args.study.now.rows _ _ c.args.stretch.first c.loop-row.row c.in_ok-totals_on_row.field-0 plain
          c.loop-row.auto.row low c.in_ok-push.ensures.items
          (c.in_ok-totals_on_row.ensures.totals _ (slice_get-get_or c.args.study.now.rows c.loop-row.row plain low))
          c.loop-row.invariant.totals;
    }

pub returns : goal.returns
returns g c =
    all_in_stretch (take (length c.args.study.now.programs)) (totals_on c.args.study.now.programs)
    c.args.study.now.rows _ c.args.stretch c.loop-row.row c.loop-row-test.false
    (c.loop-row.auto.row-end c.requires.order)
    c.loop-row.invariant.totals

pub new-requires-clause-few : goal.new-requires-clause-few
new-requires-clause-few = grind (arith, common_steps)

pub new-requires-clause-ends : goal.new-requires-clause-ends
new-requires-clause-ends = grind arith
