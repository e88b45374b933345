use Rattle.std.proofs.Common.{◌≡◌, ◌<◌}
use Rattle.std.specs.Prelude.{IfSome}
use Rattle.tomex_samples.specs.Near.{farthest_by}
use Rattle.tomex_samples.proofs.nearness.farthest.Given as goal

abbrev pub invariant-loop-k : goal.invariant-loop-k
invariant-loop-k l = record {
  best : l.best ≡ farthest_by l.parts l.near l.k;
  below : IfSome l.best (λ b. b < l.k);
}
