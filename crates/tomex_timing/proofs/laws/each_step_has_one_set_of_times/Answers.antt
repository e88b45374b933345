-- The search gives the times, and least numbers are unique.
use Rattle.tomex_timing.specs.Search.{times_of}
use Rattle.tomex_timing.proofs.Search.{times_are, times_same}
use Rattle.tomex_timing.proofs.laws.each_step_has_one_set_of_times.Goals as goal

pub returns : goal.returns
returns c = record {
  exist = λ config older s good timed. (times_of config older s, times_are config older s good timed);
  unique = times_same;
}
