-- One empty slot more.
use Rattle.std.proofs.Common.{◌∙◌, ℕ, ◌+◌, [], ◌∷◌, All, None, ap, arith, length, subst, sym}
use Rattle.std.proofs.lemmas.List.{length-append}
use Rattle.std.proofs.lemmas.Option.{none-some}
use Rattle.std.proofs.lemmas.List.Elements.{All-push}
use Rattle.std.specs.Option.{ForSome}
use Rattle.tomex_texts.specs.Places.{IsPlace}
use Rattle.tomex_texts.proofs.places.no_places.Goals as goal

pub loop-slot-init : goal.loop-slot-init
loop-slot-init c = record {
  count = ap length c.in_ok-places.ensures.items;
  are = subst (All (λ place. ForSome place IsPlace)) (sym c.in_ok-places.ensures.items)
      (λ k d none. absurd (omega (arith, none)));
}

pub loop-slot-preserved : goal.loop-slot-preserved
loop-slot-preserved c = record {
  count = ap length c.in_ok-push.ensures.items
      ∙ (length-append c.loop-slot.places.items (None ∷ [])
      ∙ ap (λ (n : ℕ). n + 1) c.loop-slot.invariant.count);
  are = subst (All (λ place. ForSome place IsPlace)) (sym c.in_ok-push.ensures.items)
      (All-push (λ place. ForSome place IsPlace) c.loop-slot.places.items None c.loop-slot.invariant.are
      (λ place none. absurd (none-some place none)));
}

pub returns : goal.returns
returns c = record {
  count = let count = c.loop-slot.invariant.count in omega (arith, count);
  are = c.loop-slot.invariant.are;
}
