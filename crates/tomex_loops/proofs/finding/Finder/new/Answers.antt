-- All places are nowhere, and none is a head.
use Rattle.std.proofs.Common.{◌∙◌, refl, sym, arith, None, false}
use Rattle.tomex_loops.proofs.Fresh.{fresh_found, fresh_lower, fresh_many, fresh_stops}
use Rattle.tomex_loops.proofs.finding.Finder.new.Goals as goal

pub returns-clause-state : goal.returns-clause-state
returns-clause-state g c = record {
  stops = fresh_stops c.args.count c.new.result.items c.in_ok-no_numbers.field-0.items c.new.ensures.items
      c.in_ok-no_numbers.ensures;
  low = omega arith;
  bases = rw c.new-2.ensures.items tt;
  heads = fresh_many c.args.count false c.in_ok-no_heads.field-0.items c.in_ok-no_heads.ensures
      ∙ sym (fresh_many c.args.count None c.in_ok-no_numbers.field-0.items c.in_ok-no_numbers.ensures);
  loops = fresh_many c.args.count None c.in_ok-no_numbers-2.field-0.items c.in_ok-no_numbers-2.ensures
      ∙ sym (fresh_many c.args.count None c.in_ok-no_numbers.field-0.items c.in_ok-no_numbers.ensures);
  lower = fresh_lower c.args.count c.in_ok-no_numbers-2.field-0.items c.in_ok-no_numbers-2.ensures;
}

pub returns-clause-many : goal.returns-clause-many
returns-clause-many g c = fresh_many c.args.count None c.in_ok-no_numbers.field-0.items c.in_ok-no_numbers.ensures

pub returns-clause-found : goal.returns-clause-found
returns-clause-found g c = record {
  ways = rw (c.new.ensures.items, c.new-2.ensures.items) refl;
  found = fresh_found c.args.count c.in_ok-no_heads.field-0.items c.in_ok-no_numbers-2.field-0.items
      c.in_ok-no_heads.ensures c.in_ok-no_numbers-2.ensures;
}
