use Rattle.std.proofs.Common.{◌≡◌, take}
use Rattle.tomex_samples.specs.Parts.{heaviest}
use Rattle.tomex_samples.proofs.weights.heaviest.Given as goal

abbrev pub invariant-loop-share : goal.invariant-loop-share
invariant-loop-share l = l.most ≡ heaviest (take l.share-index l.others) l.fn.first
