-- The links so far end earlier.
use Rattle.std.proofs.Common.{◌≡◌, ◌≤◌, ◌-◌, length, take, true}
use Rattle.std.specs.Prelude.{All, nat_lt}
use Rattle.tomex_frames.proofs.on_path.place_of.Given as goal

abbrev pub invariant-loop-place : goal.invariant-loop-place
invariant-loop-place l = record {
  few : l.place ≤ length l.path;
  passed : All (λ k. nat_lt k.to l.cycle ≡ true) (take l.place l.path);
}

abbrev pub decreases-loop-place : goal.decreases-loop-place
decreases-loop-place l = length l.path - l.place
