use Rattle.tomex_pareto.proofs.AllRivals.{stay_either_way, stay_within}
use Rattle.tomex_pareto.proofs.span_laws.rows_stay_within_their_spans.Goals as goal

pub returns-clause-costs : goal.returns-clause-costs
returns-clause-costs c = stay_within

pub returns-clause-cycles : goal.returns-clause-cycles
returns-clause-cycles c = stay_either_way
