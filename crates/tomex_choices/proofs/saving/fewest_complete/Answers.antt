-- After the last machine.
use Rattle.std.proofs.lemmas.Grind.{common_steps}
use Rattle.std.proofs.Common.{◌∙◌, arith}
use Rattle.tomex_choices.proofs.Leasts.{fewest_of_complete}
use Rattle.tomex_survey.proofs.Leasts.{last_least}
use Rattle.tomex_choices.proofs.saving.fewest_complete.Goals as goal

pub returns : goal.returns
returns c =
    last_least _ _ c.loop-x.least c.args.machines.now c.loop-x.x-index (omega (arith, c.loop-x-test.false))
    ∙ (c.loop-x.invariant ∙ fewest_of_complete c.args.cost c.args.rows.now c.args.machines.now)

pub loop-x-preserved : goal.loop-x-preserved
loop-x-preserved = grind (arith, common_steps)
