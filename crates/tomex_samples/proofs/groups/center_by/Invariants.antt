use Rattle.std.specs.Prelude.{◌&&◌, IsTrue}
use Rattle.tomex_samples.specs.Groups.{is_in}
use Rattle.tomex_samples.specs.Leaders.{can, counts_at, distance}
use Rattle.tomex_samples.specs.Near.{leaders_in, part_is_found}
use Rattle.tomex_samples.specs.Stretches.{Run}
use Rattle.tomex_samples.specs.Tallied.{AreOf}
use Rattle.tomex_samples.proofs.Centers.{IsBest, nearest_below}
use Rattle.tomex_samples.proofs.groups.center_by.Given as goal

abbrev pub invariant-loop-k : goal.invariant-loop-k
invariant-loop-k g l = record {
  best : (run : Run) → AreOf run l.stretches
      → IsBest (λ k. distance l.times (counts_at run k) l.sums) l.leader
      (nearest_below (λ k. can run k && is_in (leaders_in l.near) l.leader k)
      (λ k. distance l.times (counts_at run k) l.sums) l.k) l.best;
  can : IsTrue (part_is_found l.stretches.parts.items l.best.leader);
}
