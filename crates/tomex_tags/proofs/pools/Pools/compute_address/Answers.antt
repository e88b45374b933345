use Rattle.std.proofs.Common.{rules, ◌∙◌, Some, ap, arith, refl, sym}
use Rattle.std.specs.Prelude.{is_some}
use Rattle.tomex_tags.specs.Contents.{lacks_address, with_address}
use Rattle.tomex_tags.specs.WaitSets.{waits}
use Rattle.tomex_tags.proofs.Listening.{address_own, address_same, own_here, same_listens}
use Rattle.tomex_tags.proofs.Slots.{at_place, filled_by, set_none, set_place, said_same}
use Rattle.tomex_tags.proofs.Entering.{address_entered}
use Rattle.tomex_tags.proofs.pools.Pools.compute_address.Goals as goal

pub invariant_of-self : goal.invariant_of-self
invariant_of-self c =
    let at = rw (← c.self.view_is) at (sym c.at.ensures.value ∙ c.in-Some.is) in
    let low = c.at.ensures.low (rw c.in-Some.is refl) in
    rw (
      c.address.ensures,
      at_place c.self.inside.pools c.args.place c.index-self-place.result c.self.invariant.six low
          ∙ at,
    ) (filled_by c.self.inside.busy c.self.inside.issue_numbers c.index-self-place.result
    c.self.inside.listeners.sets c.self.invariant low c.self.invariant.filled.order_count c.self.invariant.filled.small
    (said_same c.self.inside.busy c.args.place (Some (with_address c.in-Some.station))
    (c.self.invariant.filled.each c.args.place (omega arith) ∙ ap is_some at))
    (address_entered _ c.args.place c.in-Some.station (with_address c.in-Some.station) c.self.inside.wait_sets
    c.address-in-Some.new.self (omega arith) c.self.invariant.wait_sets at refl c.address-in-Some.ensures.lacking
    c.address-in-Some.ensures.waiting c.address-in-Some.ensures.others)
    (address_own c.args.place c.in-Some.station (own_here _ c.args.place c.in-Some.station low c.self.invariant.own at))
    (same_listens _ c.args.place c.in-Some.station (with_address c.in-Some.station) c.self.inside.listeners.sets low
    c.self.invariant.listening at (address_same c.in-Some.station)))

pub returns-in-Some : goal.returns-in-Some
returns-in-Some c =
    let at = rw (← c.self.view_is) at (sym c.at.ensures.value ∙ c.in-Some.is) in
    let low = c.at.ensures.low (rw c.in-Some.is refl) in
    record {
      slots = rw (
        c.address.ensures,
        at_place c.self.inside.pools c.args.place c.index-self-place.result
            c.self.invariant.six low ∙ at,
        ← c.self.view_is,
        at,
      )
          (set_place c.self.inside.pools c.args.place c.index-self-place.result (Some (with_address c.in-Some.station))
          c.self.invariant.six low);
      busy = search rules;
      issue_numbers = search rules;
    }

pub returns-in_default : goal.returns-in_default
returns-in_default c = record {
  slots = set_none with_address c.args.self.now.slots c.args.place (sym c.at.ensures.value ∙ c.in_default.is);
  busy = refl;
  issue_numbers = refl;
}

pub bounds-self-inside-place : goal.bounds-self-inside-place
bounds-self-inside-place c =
    let low = c.at.ensures.low (rw c.in-Some.is refl) in
    omega (arith, low, c.self.invariant.six)

pub address-requires-in-Some-clause-low : goal.address-requires-in-Some-clause-low
address-requires-in-Some-clause-low c = let low = c.at.ensures.low (rw c.in-Some.is refl) in omega (arith, low)

pub address-requires-in-Some-clause-lacking : goal.address-requires-in-Some-clause-lacking
address-requires-in-Some-clause-lacking c =
    let at = rw (← c.self.view_is) at (sym c.at.ensures.value ∙ c.in-Some.is) in
    let low = c.at.ensures.low (rw c.in-Some.is refl) in
    c.self.invariant.wait_sets.lacking c.args.place (omega (arith, low)) ∙ ap lacks_address at

pub address-requires-in-Some-clause-waiting : goal.address-requires-in-Some-clause-waiting
address-requires-in-Some-clause-waiting c =
    let at = rw (← c.self.view_is) at (sym c.at.ensures.value ∙ c.in-Some.is) in
    let low = c.at.ensures.low (rw c.in-Some.is refl) in
    c.self.invariant.wait_sets.waiting c.args.place (omega (arith, low)) ∙ ap waits at
