-- After the last row.
use Rattle.std.proofs.Common.{arith, ◌∙◌, ap, ℕ, Option}
use Rattle.std.proofs.lemmas.Grind.{common_steps}
use Rattle.std.specs.Prelude.{unwrap_or}
use Rattle.tomex_survey.proofs.Leasts.{last_least}
use Rattle.tomex_choices.proofs.Options.{is_such, least_price_is, price_of}
use Rattle.tomex_choices.proofs.entries.least_price.Goals as goal

pub returns-clause-price : goal.returns-clause-price
returns-clause-price c =
    c.unwrap_or.ensures
    ∙ (ap (λ (o : Option ℕ). unwrap_or o 0)
    (last_least (is_such c.args.unit c.args.latency c.args.units) (price_of c.args.unit) c.loop-config.least
    c.args.rows.now c.loop-config.config-index c.loop-config-test.false
    ∙ c.loop-config.invariant.least)
    ∙ least_price_is c.args.rows.now c.args.unit c.args.latency c.args.units c.requires)

pub loop-config-preserved : goal.loop-config-preserved
loop-config-preserved = grind (arith, common_steps)
