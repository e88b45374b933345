use Rattle.tomex_cycle.proofs.Words.{◌∙◌, refl, sym}
use Rattle.tomex_cycle.proofs.IssueOrder.{next_in_order}
use Rattle.tomex_cycle.proofs.Addresses.{made_none, made_some}
use Rattle.tomex_cycle.proofs.Cycles.{address_happens}
use Rattle.tomex_cycle.proofs.Known.{known_addressed}
use Rattle.tomex_cycle.proofs.phases.address.Goals as goal

pub returns-in-Some-clause-addresses : goal.returns-in-Some-clause-addresses
returns-in-Some-clause-addresses c =
    made_some c.args.cycle c.in-Some.place c.args.pools.now c.compute_address.new.self _ c.address_next.ensures.busy
    (λ order by. sym c.in-Some.is ∙ next_in_order c.address_next.result c.address_next.ensures.busy by
    c.address_next.ensures.next) refl c.compute_address.ensures.slots c.compute_address.ensures.issue_numbers

pub returns-in-None-clause-addresses : goal.returns-in-None-clause-addresses
returns-in-None-clause-addresses c = made_none c.args.cycle c.args.pools.now c.address_next.ensures.busy (λ order by.
    sym c.in-None.is ∙ next_in_order c.address_next.result c.address_next.ensures.busy by c.address_next.ensures.next)

pub returns-in-Some-clause-any : goal.returns-in-Some-clause-any
returns-in-Some-clause-any c = λ some. address_happens c.args.cycle c.in-Some.place c.args.pools.now
    c.address_next.ensures.busy (λ order by. sym c.in-Some.is ∙ next_in_order c.address_next.result
    c.address_next.ensures.busy by c.address_next.ensures.next)

pub returns-in-Some-clause-timetable : goal.returns-in-Some-clause-timetable
returns-in-Some-clause-timetable c = λ f known.
    let there = rw c.in-Some.is at c.address_next.ensures.there in
    known_addressed c.compute_address.new.self.slots c.in-Some.place there c.compute_address.ensures.slots known
