use Rattle.std.proofs.Common.{◌≡◌, take}
use Rattle.std.specs.Prelude.{map}
use Rattle.tomex_samples.specs.Groups.{center}
use Rattle.tomex_samples.specs.Near.{AllCan, leaders_in}
use Rattle.tomex_samples.specs.Stretches.{Run}
use Rattle.tomex_samples.specs.Tallied.{AreOf}
use Rattle.tomex_samples.proofs.rounds.centers_of.Given as goal

abbrev pub invariant-loop-leader : goal.invariant-loop-leader
invariant-loop-leader g l = record {
  centers : (run : Run) → AreOf run l.stretches
      → l.centers.items ≡ map (center run (leaders_in l.near)) (take l.leader-index l.leaders);
  can : AllCan l.stretches.parts.items l.centers.items;
}
