use Rattle.tomex_lanes.proofs.Steps.{forks}
use Rattle.tomex_lanes.proofs.owner.share.Goals as goal

pub another-requires : goal.another-requires
another-requires g c = forks _ _
