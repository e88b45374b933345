-- After the last row.
use Rattle.std.proofs.lemmas.Grind.{common_steps}
use Rattle.std.proofs.Common.{◌∙◌, arith}
use Rattle.tomex_choices.proofs.Leasts.{fewest_of_rows}
use Rattle.tomex_survey.proofs.Leasts.{last_least}
use Rattle.tomex_choices.proofs.saving.fewest_now.Goals as goal

pub returns : goal.returns
returns c =
    last_least _ _ c.loop-row.least c.args.rows.now c.loop-row.row-index (omega (arith, c.loop-row-test.false))
    ∙ (c.loop-row.invariant ∙ fewest_of_rows c.args.cost c.args.rows.now)

pub loop-row-preserved : goal.loop-row-preserved
loop-row-preserved = grind (arith, common_steps)
