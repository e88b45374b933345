-- The cycle is past the conflicts with the accesses so far.
use Rattle.std.proofs.Common.{◌+◌, ◌≤◌, take, max}
use Rattle.tomex_timing.specs.Ahead.{ArePast}
use Rattle.tomex_timing.proofs.accesses.past_conflicts.Given as goal

abbrev pub invariant-loop-access : goal.invariant-loop-access
invariant-loop-access l = record {
  past : ArePast l.facts (take l.access-index l.accesses) l.from l.cycle;
  from : l.from ≤ l.cycle;
  by : l.cycle ≤ max l.from (l.bound + 1);
}
