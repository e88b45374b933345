-- What is kept in the slot is the text of the same instruction at the same address.
use Rattle.std.proofs.Common.{◌∙◌, ◌<◌, ap₂, arith, length, sym}
use Rattle.tomex_texts.specs.Places.{IsPlace, place_text}
use Rattle.tomex_texts.proofs.places.kept_text.Goals as goal

pub returns-in-Some : goal.returns-in-Some
returns-in-Some c =
    let count = c.requires.kept.count in
    let slot = c.requires.slot in
    let low : c.args.slot < length c.args.places.now = omega (arith, count, slot) in
    let kept = c.requires.kept.are c.args.slot c.index-places-slot.result low in
    let own : IsPlace c.in-Some.place =
    kept c.in-Some.place (sym c.index-places-slot.is ∙ c.in-Some.is) in
    c.as_slice.ensures.value ∙ (own ∙ ap₂ place_text c.if-place-pc.true (c.is_same.ensures c.if-is_same.true))
