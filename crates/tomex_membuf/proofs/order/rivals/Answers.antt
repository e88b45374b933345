use Rattle.std.proofs.Common.{arith}
use Rattle.tomex_membuf.proofs.Older.{left_out, lets_loads, lets_unaddressed}
use Rattle.tomex_membuf.proofs.Stores.{no_store}
use Rattle.tomex_membuf.proofs.order.rivals.Goals as goal

pub returns-then-place-ge-FIRST_STORE : goal.returns-then-place-ge-FIRST_STORE
returns-then-place-ge-FIRST_STORE c =
    λ s next here x l less e. lets_unaddressed c.args.pools.now.slots c.places_with_address-addressed.result s next x
    c.places_with_address-addressed.ensures.set l
    (left_out c.places_with_address-addressed.result c.without.result c.args.place x c.args.pools.now.issue_numbers
    c.without.ensures.others l less e)

pub returns-else-place-ge-FIRST_STORE : goal.returns-else-place-ge-FIRST_STORE
returns-else-place-ge-FIRST_STORE c =
    λ s next here x l less e. lets_loads c.args.pools.now.slots c.places_with_address-addressed.result c.stores.result
    c.both.result s next x c.places_with_address-addressed.ensures.set c.stores.ensures.set c.both.ensures
    (no_store c.args.pools.now.slots c.args.place s (omega (arith, c.if-place-ge-FIRST_STORE.false))
    c.keeps_places.ensures.own here) l e
