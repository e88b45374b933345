-- Step by step: if the first configuration's test fails for a part, the second has as many of that part.
use Rattle.tomex_timing.proofs.Taken.{stalled_full, peak_within}
use Rattle.tomex_timing.proofs.SameTimes.{serves_timed, serves_runs}
use Rattle.tomex_timing.proofs.Implied.{needs_tell}
use Rattle.tomex_timing.proofs.laws.parts_without_stalls_may_differ.Goals as goal

pub returns : goal.returns
returns c = record {
  times = serves_timed;
  runs = serves_runs;
  peak = peak_within;
  needs = needs_tell;
  full = stalled_full;
}
