-- The next step may issue in the cycle after the greatest end at the latest, so the totals of histories that look alike
-- are as far after the first cycles in which it may.
use Rattle.std.proofs.Common.{ℕ, ◌+◌, ◌≤◌, arith, List}
use Rattle.tomex_config.specs.Configuration.{Configuration, IsWithinLimits}
use Rattle.tomex_timing.specs.declared.times.Done.{Done}
use Rattle.tomex_timing.specs.History.{greatest_end}
use Rattle.tomex_timing.specs.Issue.{first_issue}
use Rattle.tomex_timing.specs.Recurrence.{AreTimed}
use Rattle.tomex_timing.proofs.AfterEnd.{last_issue_by}
use Rattle.tomex_timing.proofs.Bound.{timed_by}
use Rattle.tomex_timing.proofs.Splits.{slot_range}
use Rattle.tomex_timing.proofs.Summary.{branch_finish_by}
use Rattle.tomex_alike.specs.Alike.{IsAsFar, LooksLike}

pub first_by_end : (config : Configuration) (h : List Done) → IsWithinLimits config → AreTimed config h
    → first_issue config h ≤ greatest_end h + 1
first_by_end config h good timed =
    let by = timed_by config h good timed in
    let a = last_issue_by (greatest_end h) h by in
    let b = branch_finish_by (greatest_end h) h by in
    let c = (slot_range config h).1 in
    omega (arith, a, b, c)

pub total_far : (config : Configuration) (w : ℕ) (g h : List Done) → IsWithinLimits config → AreTimed config g
    → AreTimed config h → LooksLike config w g h
    → IsAsFar (first_issue config g) (first_issue config h) (greatest_end g + 1) (greatest_end h + 1)
total_far config w g h good in_g in_h like = record {
  first = first_by_end config g good in_g;
  second = first_by_end config h good in_h;
  far = like.end;
}
