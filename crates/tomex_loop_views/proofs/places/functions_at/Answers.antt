-- The function of one address more.
use Rattle.std.proofs.Common.{◌∙◌, List, ap, map, take_all, ℕ}
use Rattle.tomex_symbols.specs.Functions.{function_at}
use Rattle.tomex_loop_views.proofs.AtHeads.{map_next}
use Rattle.tomex_loop_views.proofs.places.functions_at.Goals as goal

pub loop-address-preserved : goal.loop-address-preserved
loop-address-preserved g c = λ symbols steps is all.
    map_next (function_at symbols) c.args.addresses.now c.loop-address.address-index 0 _ _ _ c.loop-address-test.true
    (c.loop-address.invariant symbols steps is all)
    (c.function_at.ensures symbols steps is (all c.loop-address.address-index 0 c.loop-address-test.true))
    c.in_ok-push.ensures.items

pub returns : goal.returns
returns g c = λ symbols steps is all.
    c.loop-address.invariant symbols steps is all
    ∙ ap (λ (xs : List ℕ). map (function_at symbols) xs)
    (take_all c.loop-address.address-index c.args.addresses.now c.loop-address-test.false)
