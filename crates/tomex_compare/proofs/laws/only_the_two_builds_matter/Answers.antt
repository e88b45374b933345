-- No definition looks at anything else.
use Rattle.tomex_compare.proofs.Other.{costs_matter_on_fronts, only_the_two_matter, only_the_two_matter_in_csv}
use Rattle.tomex_compare.proofs.laws.only_the_two_builds_matter.Goals as goal

pub returns-clause-all : goal.returns-clause-all
returns-clause-all c = only_the_two_matter

pub returns-clause-csv : goal.returns-clause-csv
returns-clause-csv c = only_the_two_matter_in_csv

pub returns-clause-costs : goal.returns-clause-costs
returns-clause-costs c = costs_matter_on_fronts
