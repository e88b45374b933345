use Rattle.std.proofs.Common.{◌≡◌, take}
use Rattle.std.specs.Prelude.{map}
use Rattle.tomex_samples.specs.Near.{leaders_in}
use Rattle.tomex_samples.specs.Parts.{share_of}
use Rattle.tomex_samples.specs.Stretches.{Run}
use Rattle.tomex_samples.specs.Tallied.{AreOf}
use Rattle.tomex_samples.proofs.choosing.shares_of.Given as goal

abbrev pub invariant-loop-leader : goal.invariant-loop-leader
invariant-loop-leader g l = (run : Run) → AreOf run l.stretches
    → l.shares.items ≡ map (share_of run (leaders_in l.near.items) l.stretches.steps) (take l.leader-index l.leaders)
