use Rattle.tomex_pareto.proofs.OnFront.{on_front}
use Rattle.tomex_pareto.proofs.Pareto.{among, apart}
use Rattle.tomex_pareto.proofs.laws.undominated_rows_are_on_the_front.Goals as goal

pub returns : goal.returns
returns c rows r numbered one = on_front rows r (apart rows numbered) (among rows r one)
