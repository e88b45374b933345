-- The least turn of the least period's counts.
use Rattle.tomex_loops.proofs.pattern.pattern_in.Goals as goal

pub returns : goal.returns
returns g c = record {
  period = c.in-Some.period;
  is = c.in-Some.ensures.0;
  least = c.in-Some.ensures.1;
  place = c.least_turn.result;
  is_turned = c.least_turn.ensures.least;
  counts_are = c.in_ok-turned.ensures;
}
