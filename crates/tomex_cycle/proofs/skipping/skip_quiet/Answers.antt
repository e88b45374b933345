use Rattle.tomex_cycle.proofs.Words.{◌+◌, refl, inr}
use Rattle.tomex_cycle.proofs.skipping.skip_quiet.Goals as goal

pub returns-then-take_results-clause-skipped : goal.returns-then-take_results-clause-skipped
returns-then-take_results-clause-skipped g c = record {
  last_free = c.skip_free-last_free.result;
  least = c.skip_free-last_free.ensures.least;
  free = rw c.pools-pools.ensures at c.skip_free-last_free.ensures.free;
  stops = rw c.pools-pools.ensures at c.skip_free-last_free.ensures.stops;
  last = inr (
    refl,
    c.if-last_free-to.true,
    c.make_cycle.ensures.cycles_made,
    rw c.pools-pools.ensures at (c.take_results.ensures.results c.if-take_results.true
        (c.skip_free-last_free.result + 1) c.skip_free-last_free.ensures.timetable).0,
  );
}

pub returns-then-take_results-clause-timetable : goal.returns-then-take_results-clause-timetable
returns-then-take_results-clause-timetable g c =
    rw (c.make_cycle.ensures.count_only refl).1 (rw c.pools-pools.ensures at (c.take_results.ensures.results
    c.if-take_results.true (c.skip_free-last_free.result + 1) c.skip_free-last_free.ensures.timetable).1)
