-- Nothing changes.
use Rattle.tomex_evaluation.proofs.known.Known.find.Given as goal

abbrev pub invariant-loop-number : goal.invariant-loop-number
invariant-loop-number g l = Unit {0}
