-- None of the turns so far reads less.
use Rattle.std.proofs.Common.{ℕ, ◌<◌, ◌≤◌, ◌≡◌, false, length}
use Rattle.tomex_loops.specs.Pattern.{reads_less, turn}
use Rattle.tomex_loops.proofs.pattern.least_turn.Given as goal

abbrev pub invariant-loop-k : goal.invariant-loop-k
invariant-loop-k l = record {
  within : l.least ≤ length l.numbers;
  none : (j : ℕ) → j < l.k → reads_less (turn j l.numbers) (turn l.least l.numbers) ≡ false;
}
