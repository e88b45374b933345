use Rattle.std.proofs.Common.{ℕ, ◌+◌, List, length, ◌∙◌, ap, arith, subst, refl}
use Rattle.std.proofs.lemmas.List.{length_push}
use Rattle.std.specs.Prelude.{None}
use Rattle.tomex_samples.specs.Counts.{AreCovered}
use Rattle.tomex_samples.proofs.Tallying.{closes, few_at, now_with, tallied_more, waits_too}
use Rattle.tomex_samples.proofs.tally.Tally.add_step.Goals as goal

pub add-requires-clause-few : goal.add-requires-clause-few
add-requires-clause-few g c =
    let t = c.requires.tallied.2 in
    omega (arith, few_at _ _ _ _ c.args.word _ _ _ _ t c.requires.inside, c.requires.under_way)

pub returns-in_ok-close-clause-tallied : goal.returns-in_ok-close-clause-tallied
returns-in_ok-close-clause-tallied g c = λ i n x is at t.
    let more =
    now_with i c.args.steps (n + 1) _ _ c.add.new.self.numbers.items _ _ _ _ c.in_ok-add.ensures.numbers
    c.if-self-steps.true
    (tallied_more i c.args.steps n _ c.args.word _ _ _ c.add.new.self.words.items _ x t is at c.requires.inside
    c.requires.under_way (subst (λ (ns : List ℕ). AreCovered c.add.new.self.words.items ns)
    c.in_ok-add.ensures.numbers c.in_ok-add.ensures.covered)) in
    closes i c.args.steps (n + 1) _ _ _ _ _ _ _ _ _ c.in_ok-close.ensures.row.0 more c.in_ok-close.ensures.row.1
    c.in_ok-close.ensures.row.2 c.in_ok-close.ensures.counts c.in_ok-close.ensures.words
    c.in_ok-close.ensures.current
    (ap length c.in_ok-close.ensures.parts ∙ length_push c.args.self.now.ends.parts.items None)

pub returns-in_ok-close-clause-found : goal.returns-in_ok-close-clause-found
returns-in_ok-close-clause-found g c = λ i n t f.
    waits_too i c.args.steps (n + 1) _ _ _ _ f (omega (arith, t.done, c.if-self-steps.true))
    c.in_ok-close.ensures.parts c.in_ok-close.ensures.waiting

pub returns-else-self-steps-clause-tallied : goal.returns-else-self-steps-clause-tallied
returns-else-self-steps-clause-tallied g c = λ i n x is at t.
    now_with i c.args.steps (n + 1) _ _ c.add.new.self.numbers.items _ _ _ _ c.in_ok-add.ensures.numbers refl
    (tallied_more i c.args.steps n _ c.args.word _ _ _ c.add.new.self.words.items _ x t is at c.requires.inside
    c.requires.under_way (subst (λ (ns : List ℕ). AreCovered c.add.new.self.words.items ns)
    c.in_ok-add.ensures.numbers c.in_ok-add.ensures.covered))
