-- The evaluation is before this block, and has gone through no more than those before it.
use Rattle.std.proofs.Common.{◌-◌, ◌≤◌, length}
use Rattle.tomex_evaluation.specs.Known.{IsBefore}
use Rattle.tomex_evaluation.proofs.demands.demands_by_blocks.Given as goal

abbrev pub invariant-loop-next : goal.invariant-loop-next
invariant-loop-next g l = record {
  evaluated : l.evaluated ≤ l.next;
  before : IsBefore l.config l.run l.blocks l.next l.evaluation;
}

abbrev pub decreases-loop-next : goal.decreases-loop-next
decreases-loop-next g l = length l.row - l.next
