use Rattle.std.proofs.Common.{◌≡◌, take}
use Rattle.std.specs.Prelude.{map}
use Rattle.tomex_samples.specs.Parts.{weighed}
use Rattle.tomex_samples.proofs.choosing.all_weighed.Given as goal

abbrev pub invariant-loop-share : goal.invariant-loop-share
invariant-loop-share g l = l.chosen.items ≡ map (weighed l.most) (take l.share-index l.shares)
