use Rattle.std.proofs.Common.{◌+◌, ◌-◌, ◌<◌, ◌≤◌, ◌∙◌, arith, sym}
use Rattle.tomex_bus.proofs.Split.{AreHalves, far_at, far_lost, halves_of, joined, least_far, least_near, near_lost}
use Rattle.tomex_bus.proofs.sets.without_lowest.Goals as goal

pub returns-then-near-ne0-clause-others : goal.returns-then-near-ne0-clause-others
returns-then-near-ne0-clause-others c = λ x member least.
    let halves : AreHalves c.args.set c.lower-near.result c.upper.result =
    halves_of c.args.set c.lower-near.result c.upper.result c.lower-near.ensures c.upper.ensures in
    let l : x < 64 = least_near c.args.set c.lower-near.result c.upper.result x halves c.lower-near.type_inv
    (omega (arith, c.if-near-ne0.true)) least in
    near_lost c.args.set c.lower-near.result c.upper.result c.without_lowest.result c.whole.result x halves
    (joined c.whole.result c.without_lowest.result c.upper.result c.whole.ensures c.without_lowest.type_inv) l
    (c.without_lowest.ensures.others x (sym (halves.near x l) ∙ member) (λ i m. sym (halves.near i (omega arith))
    ∙ least i m))

pub returns-clause-others : goal.returns-clause-others
returns-clause-others c = λ x member least.
    let halves : AreHalves c.args.set 0 c.upper-2.result =
    halves_of c.args.set 0 c.upper-2.result (sym c.if-near-ne0.false ∙ c.lower-near.ensures) c.upper-2.ensures in
    let l : 64 ≤ x = least_far c.args.set c.upper-2.result x halves member in
    far_lost c.args.set 0 c.upper-2.result c.without_lowest-2.result c.whole-2.result x halves
    (joined c.whole-2.result 0 c.without_lowest-2.result c.whole-2.ensures (omega arith)) l
    (c.without_lowest-2.ensures.others (x - 64) (sym (far_at c.args.set 0 c.upper-2.result x halves l) ∙ member)
    (λ i m. sym (halves.far i) ∙ least (64 + i) (omega arith)))
