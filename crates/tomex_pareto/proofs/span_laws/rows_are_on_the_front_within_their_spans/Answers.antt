use Rattle.tomex_pareto.proofs.AllRivals.{are_on_front_within}
use Rattle.tomex_pareto.proofs.span_laws.rows_are_on_the_front_within_their_spans.Goals as goal

pub returns : goal.returns
returns c = are_on_front_within
