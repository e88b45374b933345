-- The last issue and the greatest end of the steps so far.
use Rattle.std.proofs.Common.{◌≡◌, take}
use Rattle.tomex_timing.specs.History.{greatest_end, last_issue}
use Rattle.tomex_timing.specs.Search.{history}
use Rattle.tomex_run_views.proofs.drain.drain_of.Given as goal

abbrev pub invariant-loop-index : goal.invariant-loop-index
invariant-loop-index l = record {
  issue : l.issue ≡ last_issue (history l.config (take l.index l.steps));
  end : l.end ≡ greatest_end (history l.config (take l.index l.steps));
}
