-- The evaluator keeps its run, which is short.
use Rattle.std.proofs.Common.{◌≤◌, length}
use Rattle.tomex_tests_timing.proofs.evaluations.Evaluating.is_right.Given as goal

abbrev pub invariant-loop : goal.invariant-loop
invariant-loop l = length l.evaluator ≤ 2000
