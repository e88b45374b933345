-- The outcome of a cycle, as the machine reports it.
use Rattle.tomex_cycle.specs.declared.progress.CycleOutcome.{CycleOutcome}
use Rattle.tomex_cycle.specs.declared.progress.CycleOutcome.TheVariants as after
use Rattle.tomex_cycle.specs.declared.progress.Progress.{Progress}
use Rattle.tomex_cycle.specs.declared.progress.Progress.TheVariants.{Running, Ended, Faulted}

abbrev pub progress_of : CycleOutcome → Progress
progress_of after.Active = Running
progress_of after.Settled = Running
progress_of after.Ended = Ended
progress_of (after.Faulted fault) = Faulted fault
