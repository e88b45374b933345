-- The stretches so far, and those of the remaining workers.
use Rattle.std.proofs.Common.{◌≡◌, ◌-◌, ◌++◌, All, map}
use Rattle.std.specs.List.{range_with_len}
use Rattle.tomex_survey.specs.Stretches.{IsWithin, stretch_of, stretches_of}
use Rattle.tomex_survey.proofs.stretch.stretches.Given as goal

abbrev pub invariant-loop-worker : goal.invariant-loop-worker
invariant-loop-worker g l = record {
  are : l.stretches.items ++ map (stretch_of l.rows l.workers) (range_with_len l.worker (l.workers - l.worker))
      ≡ stretches_of l.rows l.workers;
  within : All (IsWithin l.rows) l.stretches.items;
}
