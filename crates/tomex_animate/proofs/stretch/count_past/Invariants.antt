-- The steps so far are past.
use Rattle.std.proofs.Common.{◌≡◌, ◌≤◌, ◌-◌, length, take, true}
use Rattle.std.specs.Prelude.{All}
use Rattle.tomex_animate.specs.Stretch.{is_past}
use Rattle.tomex_animate.proofs.stretch.count_past.Given as goal

abbrev pub invariant-loop-count : goal.invariant-loop-count
invariant-loop-count l = record {
  few : l.count ≤ length l.entries;
  past : All (λ e. is_past l.first e ≡ true) (take l.count l.entries);
}

abbrev pub decreases-loop-count : goal.decreases-loop-count
decreases-loop-count l = length l.entries - l.count
