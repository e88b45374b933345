use Rattle.std.proofs.Common.{◌≡◌, ◌-◌, ◌<◌, length}
use Rattle.tomex_samples.specs.Groups.{leaders_after}
use Rattle.tomex_samples.specs.Near.{AllCan}
use Rattle.tomex_samples.specs.Stretches.{Run}
use Rattle.tomex_samples.specs.Tallied.{AreOf}
use Rattle.tomex_samples.proofs.rounds.leaders_after.Given as goal

abbrev pub invariant-loop-round : goal.invariant-loop-round
invariant-loop-round g l = record {
  leaders : (run : Run) → AreOf run l.stretches
      → leaders_after run (10 - l._round) l.leaders.items ≡ leaders_after run 10 l.fn.first.items;
  some : 0 < length l.leaders.items;
  can : AllCan l.stretches.parts.items l.leaders.items;
}
