-- The charge goes to the place that was found.
use Rattle.std.proofs.Common.{◌≡◌, arith, length}
use Rattle.tomex_loop_views.proofs.Insertion.{inserted_at, inserted_end}
use Rattle.tomex_loop_views.proofs.charges.place_of.Goals as goal

pub returns-then-charges-place-clause-place : goal.returns-then-charges-place-clause-place
returns-then-charges-place-clause-place c =
    inserted_at c.args.charge c.args.charges.now c.loop-place.place _ c.loop-place-test.true
    c.loop-place.invariant c.if-charges-place.true

pub returns-clause-place : goal.returns-clause-place
returns-clause-place c =
    let n : c.loop-place.place ≡ length c.args.charges.now =
    omega (arith, c.loop-place-test.false, c.loop-place.auto.place-end) in
    inserted_end c.args.charge c.args.charges.now (λ j z h. c.loop-place.invariant j z (omega (arith, h, n)))
