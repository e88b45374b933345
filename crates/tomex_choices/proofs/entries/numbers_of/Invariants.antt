-- Each number so far.
use Rattle.std.proofs.Common.{◌≡◌, ◌<◌, ℕ, false, get_or, length}
use Rattle.tomex_choices.specs.Asking.{has_number}
use Rattle.tomex_choices.proofs.entries.numbers_of.Given as goal

abbrev pub invariant-loop-number : goal.invariant-loop-number
invariant-loop-number l = record {
  long : length l.numbers ≡ 17;
  each : (k : ℕ) → k < l.number → get_or l.numbers k false ≡ has_number l.rows l.part k;
}
