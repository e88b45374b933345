use Rattle.std.proofs.Common.{[], ◌∷◌}
use Rattle.tomex_lanes.proofs.Steps.{adds}
use Rattle.tomex_lanes.proofs.owner.add.Goals as goal

pub push_as-requires-clause-pushes : goal.push_as-requires-clause-pushes
push_as-requires-clause-pushes g c = adds _ _ (c.args.row ∷ []) c.requires
