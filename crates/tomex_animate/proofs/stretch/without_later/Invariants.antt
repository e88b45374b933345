-- The steps from there on are later.
use Rattle.std.proofs.Common.{◌≡◌, ◌≤◌, drop, length, true}
use Rattle.std.specs.Prelude.{All}
use Rattle.tomex_animate.specs.Stretch.{is_later}
use Rattle.tomex_animate.proofs.stretch.without_later.Given as goal

abbrev pub invariant-loop-count : goal.invariant-loop-count
invariant-loop-count l = record {
  few : l.count ≤ length l.entries;
  later : All (λ e. is_later l.last e ≡ true) (drop l.count l.entries);
}

abbrev pub decreases-loop-count : goal.decreases-loop-count
decreases-loop-count l = l.count
