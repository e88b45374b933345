-- After the last row.
use Rattle.std.proofs.Common.{◌∙◌, ℕ, List, Option, ap, map, true, arith}
use Rattle.std.proofs.lemmas.Grind.{common_steps}
use Rattle.std.specs.Prelude.{unwrap_or}
use Rattle.tomex_pareto.specs.declared.front_row.FrontRow.{FrontRow}
use Rattle.tomex_survey.specs.Extremes.{least}
use Rattle.tomex_survey.specs.Floors.{fastest}
use Rattle.tomex_survey.proofs.Leasts.{last_least, least_of_all}
use Rattle.tomex_survey.proofs.floors.fastest.Goals as goal

pub returns : goal.returns
unfolding fastest
returns g c =
    c.unwrap_or.ensures
    ∙ ap (λ (o : Option ℕ). unwrap_or o 0)
    (last_least (λ r. true) (λ r. r.cycles) c.loop-row.least c.rows-row-items.result.now c.loop-row.row-index
    c.loop-row-test.false
    ∙ (c.loop-row.invariant
    ∙ (least_of_all (λ (r : FrontRow). r.cycles) c.rows-row-items.result.now
    ∙ ap (λ (rs : List FrontRow). least (map (λ r. r.cycles) rs)) c.rows-row-items.ensures.value)))

pub loop-row-preserved : goal.loop-row-preserved
loop-row-preserved = grind (arith, common_steps)
