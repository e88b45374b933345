-- The run is in the state with this number, and may go on in this cycle.
use Rattle.std.proofs.Common.{◌-◌, ◌≤◌, length}
use Rattle.tomex_evaluation.specs.Known.{IsBefore}
use Rattle.tomex_evaluation.specs.declared.evaluation.Standing.TheVariants.{Kept}
use Rattle.tomex_evaluation.proofs.evaluation.Evaluation.follow.Given as goal

abbrev pub invariant-loop-block : goal.invariant-loop-block
invariant-loop-block g l = record {
  on : l.first ≤ l.next;
  before : IsBefore l.task.config.now l.task.run.now l.task.blocks.now l.next
      (record l.self { standing = Kept l.state; time = l.time });
}

abbrev pub decreases-loop-block : goal.decreases-loop-block
decreases-loop-block g l = length l.task.blocks.now.blocks - l.next
