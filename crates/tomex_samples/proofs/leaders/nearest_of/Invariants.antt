use Rattle.std.proofs.Common.{◌≡◌, length, take}
use Rattle.tomex_samples.specs.Near.{AreNearest}
use Rattle.tomex_samples.specs.Stretches.{Run}
use Rattle.tomex_samples.specs.Tallied.{AreOf}
use Rattle.tomex_samples.proofs.leaders.nearest_of.Given as goal

abbrev pub invariant-loop-leader : goal.invariant-loop-leader
invariant-loop-leader g l = record {
  number : length l.near.items ≡ length l.stretches.parts.items;
  nearest : (run : Run) → AreOf run l.stretches → AreNearest run (take l.leader-index l.leaders) l.near.items;
}
