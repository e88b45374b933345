use Rattle.std.proofs.Common.{◌-◌, ◌<◌, ◌≤◌, ◌∙◌, arith, inl, inr, refl, sym}
use Rattle.std.specs.Prelude.{nat_lt}
use Rattle.std.proofs.lemmas.Bool.{cases_Bool, ltb-true, ltb-false}
use Rattle.tomex_bus.proofs.Split.{AreHalves, far_at, halves_of, none_near}
use Rattle.tomex_bus.proofs.sets.lowest.Goals as goal

pub returns-then-near-ne0-clause-member : goal.returns-then-near-ne0-clause-member
returns-then-near-ne0-clause-member c =
    (halves_of c.args.set c.lower-near.result _ c.lower-near.ensures refl).near c.lowest.result c.lowest.ensures.below
    ∙ c.lowest.ensures.member

pub returns-then-near-ne0-clause-least : goal.returns-then-near-ne0-clause-least
returns-then-near-ne0-clause-least c i l =
    let below : c.lowest.result < 64 = c.lowest.ensures.below in
    (halves_of c.args.set c.lower-near.result _ c.lower-near.ensures refl).near i (omega arith)
    ∙ c.lowest.ensures.least i l

pub returns-clause-member : goal.returns-clause-member
returns-clause-member c = (halves_of c.args.set _ c.upper.result refl c.upper.ensures).far c.lowest-2.result
    ∙ c.lowest-2.ensures.member

pub returns-clause-least : goal.returns-clause-least
returns-clause-least c i l =
    let halves : AreHalves c.args.set 0 c.upper.result =
    halves_of c.args.set 0 c.upper.result (sym c.if-near-ne0.false ∙ c.lower-near.ensures) c.upper.ensures in
    elim (cases_Bool (nat_lt i 64)) [
      | inl e ↦ none_near c.args.set c.upper.result i halves (ltb-true _ _ e)
      | inr e ↦
          let high : 64 ≤ i = ltb-false _ _ e in
          far_at c.args.set 0 c.upper.result i halves high ∙ c.lowest-2.ensures.least (i - 64) (omega arith)
    ]
