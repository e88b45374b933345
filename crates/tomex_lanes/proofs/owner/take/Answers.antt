use Rattle.tomex_lanes.proofs.Steps.{takes}
use Rattle.tomex_lanes.proofs.owner.take.Goals as goal

pub pop_as-requires-clause-fifo : goal.pop_as-requires-clause-fifo
pop_as-requires-clause-fifo g c = λ _. takes _ 1 _
