use Rattle.std.proofs.lemmas.Grind.{common_steps}
use Rattle.std.proofs.Common.{◌≡◌, true, false, inl, inr, arith, below_more}
use Rattle.std.proofs.lemmas.Bool.{cases_lt}
use Rattle.tomex_cut.proofs.words.Words.lowest_place.Goals as goal

pub returns-then-can_place-clause-lowest : goal.returns-then-can_place-clause-lowest
returns-then-can_place-clause-lowest g c = λ j s. elim (cases_lt j c.loop-first.first) [
  | inl l ↦ absurd (c.loop-first.invariant j l s)
  | inr g ↦ g
]

pub loop-first-preserved : goal.loop-first-preserved
loop-first-preserved g c =
    below_more _ _ c.loop-first.invariant
    (λ s. let yes : c.can_place.result ≡ true = c.can_place.ensures.1 s in
    let no : c.can_place.result ≡ false = c.if-can_place.false in cc)

pub returns-clause-none : goal.returns-clause-none
returns-clause-none g c = λ k h s. c.loop-first.invariant k (omega arith) s

pub returns-then-can_place-clause-stands : goal.returns-then-can_place-clause-stands
returns-then-can_place-clause-stands = grind (arith, common_steps)
