-- A line has the words, or it hasn't.
use Rattle.std.proofs.Common.{◌∙◌, List, ℕ, refl, subst, sym}
use Rattle.std.specs.List.{All}
use Rattle.std.proofs.lemmas.Bool.{false≢true}
use Rattle.std.proofs.lemmas.List.{take_all}
use Rattle.std.proofs.lemmas.List.Elements.{All-contains, All-more}
use Rattle.tomex_refusals.specs.Looking.{HasWords}
use Rattle.tomex_refusals.specs.Refusals.{HasPart, all_refusals}
use Rattle.tomex_refusals.proofs.Found.{contains_at}
use Rattle.tomex_refusals.proofs.longest_words.is_in_a_line.Goals as goal

pub returns-then-has_words : goal.returns-then-has_words
returns-then-has_words c =
    let has = subst (λ (form : List ℕ). HasWords form c.args.words.now) c.form.ensures
    (c.has_words.ensures.0 c.if-has_words.true) in
    (λ _. (_, contains_at all_refusals c.loop-refusal.refusal-index _ _ c.loop-refusal-test.true refl, has), λ _. refl)

pub loop-refusal-preserved : goal.loop-refusal-preserved
loop-refusal-preserved c =
    All-more (λ refusal. HasPart c.args.words.now refusal → ⊥) all_refusals c.loop-refusal.refusal-index _
    c.loop-refusal-test.true c.loop-refusal.invariant (λ has. false≢true (sym c.if-has_words.false ∙
    c.has_words.ensures.1 (subst (λ (form : List ℕ). HasWords form c.args.words.now) (sym c.form.ensures) has)))

pub returns : goal.returns
returns c =
    let none = subst (λ refusals. All (λ refusal. HasPart c.args.words.now refusal → ⊥) refusals)
    (take_all c.loop-refusal.refusal-index all_refusals c.loop-refusal-test.false) c.loop-refusal.invariant in (
      λ wrong. absurd (false≢true wrong),
      λ in_line. absurd (All-contains
          (λ refusal. HasPart c.args.words.now refusal → ⊥) all_refusals in_line.0 none in_line.1 in_line.2),
    )
