-- A refusal's line has the words, or it hasn't.
use Rattle.std.proofs.Common.{◌∙◌, List, ℕ, refl, subst, sym}
use Rattle.std.proofs.lemmas.Bool.{false≢true}
use Rattle.tomex_refusals.specs.Looking.{HasWords}
use Rattle.tomex_refusals.specs.Refusals.{all_refusals}
use Rattle.tomex_refusals.proofs.Found.{all_with, one_with, one_without}
use Rattle.tomex_refusals.proofs.refusal.refusals_with.Goals as goal
use Rattle.tomex_refusals.proofs.refusal.refusals_with.Goals.{then-has_words+in_ok-push, else-has_words}

pub loop-refusal-preserved : goal.loop-refusal-preserved
loop-refusal-preserved g c =
    let here = c.has_words.ensures in
    let same = c.form.ensures in
    elim c.if-has_words.branch [
      | then-has_words+in_ok-push w ↦
          let has = subst (λ (form : List ℕ). HasWords form c.args.words.now) same (here.0 w.if-has_words.true) in
          rw (w.found-is, w.in_ok-push.ensures.items) (one_with c.args.words.now all_refusals
          c.loop-refusal.refusal-index _ _ _ c.loop-refusal-test.true refl has c.loop-refusal.invariant)
      | else-has_words w ↦ rw w.found-is (one_without c.args.words.now all_refusals c.loop-refusal.refusal-index _ _ _
          c.loop-refusal-test.true refl (λ has. false≢true (sym w.if-has_words.false ∙ here.1
          (subst (λ (form : List ℕ). HasWords form c.args.words.now) (sym same) has))) c.loop-refusal.invariant)
    ]

pub returns : goal.returns
returns g c =
    all_with c.args.words.now all_refusals c.loop-refusal.refusal-index _ c.loop-refusal-test.false
    c.loop-refusal.invariant
