-- What is found so far is what is defined, and leads to what is found in the whole run.
use Rattle.std.proofs.Common.{◌≡◌, ◌≤◌, drop, length}
use Rattle.tomex_loops.specs.Loops.{Found, found_after, found_in}
use Rattle.tomex_loops.specs.Ways.{IsFinding, ShowsFound}
use Rattle.tomex_loops.proofs.finding.find.Given as goal

abbrev pub invariant-loop-coming : goal.invariant-loop-coming
invariant-loop-coming g l = record {
  state : IsFinding l.finder;
  many : length l.finder.at.items ≡ length l.comings;
  few : length l.finder.stops.items ≤ l.coming-index;
  found : (f : Found) × ShowsFound f l.finder
      × (found_after f (drop l.coming-index l.comings) ≡ found_in l.comings);
}
