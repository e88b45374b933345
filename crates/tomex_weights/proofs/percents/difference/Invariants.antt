-- The sum of the programs so far.
use Rattle.std.proofs.Common.{◌≡◌, ◌*◌, ◌≤◌, ◌^◌, sum_by, take}
use Rattle.std.specs.Int.{abs_diff}
use Rattle.tomex_study.specs.Cycles.{total_at}
use Rattle.tomex_weights.proofs.percents.difference.Given as goal

abbrev pub invariant-loop-place : goal.invariant-loop-place
invariant-loop-place g l = record {
  sum : l.sum ≡ sum_by (λ p. p.weight * abs_diff (total_at l.surveyed p l.a) (total_at l.surveyed p l.b))
      (take l.place l.surveyed.programs);
  bound : l.sum ≤ l.place * 2 ^ 96;
}
