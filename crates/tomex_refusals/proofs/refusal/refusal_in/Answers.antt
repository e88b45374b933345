-- Its words are in the text, or they aren't.
use Rattle.std.proofs.Common.{◌∙◌, List, ℕ, refl, subst, sym}
use Rattle.std.proofs.lemmas.Bool.{false≢true}
use Rattle.tomex_refusals.specs.Looking.{HasWords}
use Rattle.tomex_refusals.specs.Refusals.{all_refusals}
use Rattle.tomex_refusals.proofs.Found.{none_is_in, one_is_in, one_is_not}
use Rattle.tomex_refusals.proofs.refusal.refusal_in.Goals as goal

pub returns-then-has_words : goal.returns-then-has_words
returns-then-has_words c =
    let here = c.has_words.ensures in
    let has = subst (λ (words : List ℕ). HasWords c.args.text.now words) c.words.ensures (here.0 c.if-has_words.true)
    in
    one_is_in c.args.text.now all_refusals c.loop-refusal.refusal-index _ _ c.loop-refusal-test.true refl has
    c.loop-refusal.invariant

pub loop-refusal-preserved : goal.loop-refusal-preserved
loop-refusal-preserved c =
    let here = c.has_words.ensures in
    one_is_not c.args.text.now all_refusals c.loop-refusal.refusal-index _ _ c.loop-refusal-test.true refl
    (λ has. false≢true (sym c.if-has_words.false ∙ here.1
    (subst (λ (words : List ℕ). HasWords c.args.text.now words) (sym c.words.ensures) has))) c.loop-refusal.invariant

pub returns : goal.returns
returns c =
    none_is_in c.args.text.now all_refusals c.loop-refusal.refusal-index c.loop-refusal-test.false
    c.loop-refusal.invariant
