-- As many issues of the cycle are made as are counted.
use Rattle.tomex_cycle.proofs.Words.{IsTimetableOf, IssuesOn, Finishes, front, ℕ, ◌≡◌, ◌-◌}
use Rattle.tomex_cycle.proofs.issue.issue_more.Given as goal

abbrev pub invariant-issues : goal.invariant-issues
invariant-issues g l = record {
  on : IssuesOn l.fn.fetcher l.config l.fn.count (front l.fn.pools l.fn.registers l.fn.fetch) l.made l.count
      (front l.pools l.registers l.fetch);
  known : (next : ℕ) (f : Finishes) → IsTimetableOf l.fn.pools.slots next f → IsTimetableOf l.pools.slots next f;
  same : l.fetcher ≡ l.fn.fetcher;
}

abbrev pub decreases-issues : goal.decreases-issues
decreases-issues g l = l.width - l.made
