-- The operations among the links so far.
use Rattle.std.proofs.Common.{◌≡◌, take}
use Rattle.tomex_path.specs.Bound.{operations}
use Rattle.tomex_path_views.proofs.shares.operations.Given as goal

abbrev pub invariant-loop-link : goal.invariant-loop-link
invariant-loop-link l = l.count ≡ operations l.unit (take l.link-index l.path)
