use Rattle.std.proofs.Common.{◌≤◌, ◌∙◌, arith, inl, inr, sym}
use Rattle.std.specs.Prelude.{nat_lt}
use Rattle.std.proofs.lemmas.Bool.{both_ways, cases_Bool, ltb-true, ltb-false}
use Rattle.tomex_bus.specs.Sets.{has}
use Rattle.tomex_bus.proofs.Bits.{complement, kept, lacked}
use Rattle.tomex_bus.proofs.small.least_absent.Goals as goal

-- 16 itself was put in
pub returns-clause-below : goal.returns-clause-below
returns-clause-below c = elim (cases_Bool (nat_lt 16 c.lowest.result)) [
  | inl e ↦ absurd (both_ways (has c.with.result 16) (c.lowest.ensures.least 16 (ltb-true _ _ e)) c.with.ensures.same)
  | inr e ↦ ltb-false _ _ e
]

pub returns-clause-absent : goal.returns-clause-absent
returns-clause-absent c l = lacked (has c.args.set c.lowest.result)
    (sym (complement c.args.set c.lowest.result c.ranges.set.fits (omega arith))
    ∙ (sym (c.with.ensures.others c.lowest.result (λ e. absurd (omega arith))) ∙ c.lowest.ensures.member))

pub returns-clause-least : goal.returns-clause-least
returns-clause-least c i l =
    let most : c.lowest.result ≤ 16 = returns-clause-below c in
    kept (has c.args.set i) (sym (complement c.args.set i c.ranges.set.fits (omega arith))
    ∙ (sym (c.with.ensures.others i (λ e. absurd (omega arith))) ∙ c.lowest.ensures.least i l))
