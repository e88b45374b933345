use Rattle.tomex_views.proofs.Naming.{counted_once}
use Rattle.tomex_views.proofs.laws.order_and_repetition_do_not_matter.Goals as goal

pub returns : goal.returns
returns c = counted_once
