-- The greatest end so far.
use Rattle.std.proofs.Common.{◌≡◌, take}
use Rattle.tomex_timing.specs.Search.{total_of}
use Rattle.tomex_timing.proofs.evaluate.total.Given as goal

abbrev pub invariant-loop-at : goal.invariant-loop-at
invariant-loop-at l = l.greatest ≡ total_of (take l.at-index l.times)
