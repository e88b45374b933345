use Rattle.tomex_lanes.proofs.Steps.{takes}
use Rattle.tomex_lanes.proofs.owner.steal.Goals as goal

pub steal_as-requires-clause-takes : goal.steal_as-requires-clause-takes
steal_as-requires-clause-takes g c = takes _ 1 _
