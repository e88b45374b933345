use Rattle.tomex_cycle.proofs.Truth.{taken}
use Rattle.tomex_cycle.proofs.StartsBegun.{all_stored, first_stored, member_stored, store_picked, stores_stored}
use Rattle.tomex_cycle.proofs.starts.write.Goals as goal

pub members-init : goal.members-init
members-init g c = λ low inside. first_stored c.args.pools.now.slots c.both-stores.result c.args.memory.now

pub members-preserved : goal.members-preserved
members-preserved g c = λ low inside.
    let among = store_picked c.args.picked c.both-stores.result c.stores.result c.both-stores.ensures in
    member_stored c.write_at.new.memory (λ x l e. low x l (among x e)) (λ x l e. inside x l (among x e))
    (taken c.lowest-place.ensures.below c.lowest-place.ensures.member c.lowest-place.ensures.least
    c.without_lowest-rest.ensures.others) c.write_at.ensures.stored c.write_at.ensures.none
    (c.members.invariant low inside)

pub returns : goal.returns
returns g c = λ low inside.
    let among = store_picked c.args.picked c.both-stores.result c.stores.result c.both-stores.ensures in
    stores_stored c.args.picked c.stores.result c.stores.ensures.set c.both-stores.ensures
    (all_stored (λ x l e. low x l (among x e)) c.members-test.false (c.members.invariant low inside))
