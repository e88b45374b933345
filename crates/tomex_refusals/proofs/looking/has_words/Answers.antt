-- The words stand at a place, or at none.
use Rattle.std.proofs.Common.{◌∙◌, refl, sym, arith}
use Rattle.std.proofs.lemmas.Grind.{common_steps}
use Rattle.tomex_refusals.proofs.Standing.{at_last, in_text}
use Rattle.tomex_refusals.proofs.looking.has_words.Goals as goal

pub returns-then-stand_at : goal.returns-then-stand_at
returns-then-stand_at c =
    let here = sym c.stand_at.ensures ∙ c.if-stand_at.true in (
      λ e. in_text c.args.text.now c.args.words.now c.loop-place.place
          (rw (c.as_bytes-text.ensures.value, c.as_bytes-words.ensures.value) at here),
      λ has. refl,
    )

pub returns : goal.returns
returns c =
    let last = rw (c.as_bytes-text.ensures.value, c.as_bytes-words.ensures.value) at c.stand_at-2.ensures in
    let none = rw (c.as_bytes-text.ensures.value, c.as_bytes-words.ensures.value) at c.loop-place.invariant in
    let room = rw (c.as_bytes-text.ensures.value, c.as_bytes-words.ensures.value) at c.if-text-words.false in
    let past = rw (c.as_bytes-text.ensures.value, c.as_bytes-words.ensures.value) at c.loop-place-test.false in (
      λ e. in_text c.args.text.now c.args.words.now _ (sym last ∙ e),
      λ has. at_last c.args.text.now c.args.words.now c.loop-place.place _ _ room refl past none last has,
    )

pub returns-then-text-words : goal.returns-then-text-words
returns-then-text-words = grind (arith, common_steps)
