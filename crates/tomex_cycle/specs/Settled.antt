-- Settled cycles. By the recurrence, nothing happens after one before the next operation finishes.
use Rattle.std.specs.Prelude.{ℕ, ◌≢◌, ◌+◌, List}
use Rattle.std.specs.List.{AllByRecursion}
use Rattle.tomex_timing.specs.declared.times.Done.{Done}
use Rattle.tomex_timing.specs.History.{cycle_of}

-- of the step only its start may fall in the cycle, and it neither issues nor starts in the next one
pub record IsSettled (u : ℕ) (d : Done) : Type 0 where
  pub issue : d.at.issue ≢ u
  pub address : cycle_of d.at.address ≢ u
  pub finish : d.at.finish ≢ u
  pub end : d.at.end ≢ u
  pub no_issue_next : d.at.issue ≢ u + 1
  pub no_start_next : d.at.start ≢ u + 1

abbrev pub AllSettled : ℕ → List Done → Type 0
AllSettled u h = AllByRecursion (IsSettled u) h
