-- Each stands at its place.
use Rattle.std.proofs.Common.{◌-◌, arith, length}
use Rattle.std.specs.Prelude.{◌/◌}
use Rattle.tomex_loops.proofs.AtPlaces.{at_place}
use Rattle.tomex_loops.proofs.counts.counts_of.Goals as goal

pub returns : goal.returns
returns c = record {
  least = at_place c.args.sorted.now 0 c.requires.order c.requires.some;
  median = at_place c.args.sorted.now ((length c.args.sorted.now - 1) / 2) c.requires.order
      (omega (arith, c.requires.some));
  most = at_place c.args.sorted.now (length c.args.sorted.now - 1) c.requires.order (omega (arith, c.requires.some));
  alike = c.usual_of-usual.ensures.alike;
  usual = c.usual_of-usual.ensures.usual;
  first = c.usual_of-usual.ensures.first;
}
