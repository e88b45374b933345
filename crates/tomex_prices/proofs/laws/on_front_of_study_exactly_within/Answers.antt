use Rattle.tomex_prices.proofs.RepricedStudy.{on_study_within}
use Rattle.tomex_prices.proofs.laws.on_front_of_study_exactly_within.Goals as goal

pub returns : goal.returns
returns c = on_study_within
