-- Rows of a hull have numbers of their own.
use Rattle.tomex_page.proofs.HullRates.{others_have_no_rate, rates_are_the_hulls}
use Rattle.tomex_page.proofs.laws.rates_are_the_hulls.Goals as goal

pub returns-clause-hull : goal.returns-clause-hull
returns-clause-hull c = rates_are_the_hulls

pub returns-clause-others : goal.returns-clause-others
returns-clause-others c = others_have_no_rate
