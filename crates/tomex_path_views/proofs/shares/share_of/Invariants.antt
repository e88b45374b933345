-- What the links so far have together.
use Rattle.std.proofs.Common.{◌≡◌, take}
use Rattle.tomex_path_views.specs.ByReason.{links_with}
use Rattle.tomex_path_views.specs.Shares.{share_of}
use Rattle.tomex_path_views.proofs.shares.share_of.Given as goal

abbrev pub invariant-loop-link : goal.invariant-loop-link
invariant-loop-link l = l.share ≡ share_of (links_with l.reason (take l.link-index l.path))
