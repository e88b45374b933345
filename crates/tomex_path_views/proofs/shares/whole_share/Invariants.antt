-- What the links so far have together.
use Rattle.std.proofs.Common.{◌≡◌, take}
use Rattle.tomex_path_views.specs.Shares.{share_of}
use Rattle.tomex_path_views.proofs.shares.whole_share.Given as goal

abbrev pub invariant-loop-link : goal.invariant-loop-link
invariant-loop-link l = l.share ≡ share_of (take l.link-index l.path)
