use Rattle.std.proofs.Common.{◌∙◌, ap, inl, inr, sym}
use Rattle.tomex_membuf.specs.Addresses.{has_base}
use Rattle.tomex_membuf.proofs.Older.{none_lacks, oldest_lacking}
use Rattle.tomex_membuf.proofs.addresses.address_next.Goals as goal

pub returns-then-lacking-eq0-clause-next : goal.returns-then-lacking-eq0-clause-next
returns-then-lacking-eq0-clause-next c =
    inl (none_lacks c.args.pools.now.slots c.places_without_address-lacking.result
    c.places_without_address-lacking.ensures.set c.if-lacking-eq0.true)

pub returns-then-has_base-clause-next : goal.returns-then-has_base-clause-next
returns-then-has_base-clause-next c = (
  oldest_lacking c.args.pools.now.slots c.places_without_address-lacking.result c.oldest-place.result
      c.args.pools.now.issue_numbers
      c.places_without_address-lacking.ensures.set c.oldest-place.ensures.below c.oldest-place.ensures.member
      (rw c.issue_numbers.ensures at c.oldest-place.ensures.least),
  ap has_base (sym c.at.ensures.value) ∙ (sym c.has_base.ensures ∙ c.if-has_base.true),
)

pub returns-else-has_base-clause-next : goal.returns-else-has_base-clause-next
returns-else-has_base-clause-next c = inr (
  c.oldest-place.result,
  oldest_lacking c.args.pools.now.slots c.places_without_address-lacking.result c.oldest-place.result
      c.args.pools.now.issue_numbers
      c.places_without_address-lacking.ensures.set c.oldest-place.ensures.below c.oldest-place.ensures.member
      (rw c.issue_numbers.ensures at c.oldest-place.ensures.least),
  ap has_base (sym c.at.ensures.value) ∙ (sym c.has_base.ensures ∙ c.if-has_base.false),
)
