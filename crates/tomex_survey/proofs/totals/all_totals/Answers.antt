-- The totals on all stretches are those on all rows.
use Rattle.std.proofs.Common.{ap, length, arith}
use Rattle.std.proofs.lemmas.Grind.{common_steps}
use Rattle.std.proofs.lemmas.Result.{IfOk-weaker}
use Rattle.tomex_survey.proofs.Weighing.{all_totals_are}
use Rattle.tomex_survey.proofs.totals.all_totals.Goals as goal

pub returns : goal.returns
returns g c =
    IfOk-weaker c.join_parts.result _ _
    (λ v is. all_totals_are c.args.study.now c.args.workers _ _ _ _ v.items c.requires.some_workers
    (ap length c.rows.ensures.value) c.in_ok-stretches.ensures.are c.as_slice.ensures.value c.in_ok-parts.ensures is)
    c.join_parts.ensures

pub parts-requires-after_bounds : goal.parts-requires-after_bounds
parts-requires-after_bounds = grind (arith, common_steps)
