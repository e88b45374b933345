use Rattle.std.proofs.Common.{◌∙◌, sym}
use Rattle.tomex_membuf.proofs.order.is_alone.Goals as goal

pub returns : goal.returns
returns c = (
  λ alone a b l m first second. c.is_single.ensures.0 alone a b l m (c.places_with_address.ensures.set a l ∙ first)
      (c.places_with_address.ensures.set b m ∙ second),
  λ one. c.is_single.ensures.1 (λ a b l m first second. one a b l m
      (sym (c.places_with_address.ensures.set a l) ∙ first)
      (sym (c.places_with_address.ensures.set b m) ∙ second)),
)
