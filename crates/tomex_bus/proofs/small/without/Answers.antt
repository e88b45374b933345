use Rattle.std.proofs.Common.{ℕ, ◌≤◌, ◌<◌, ◌≡◌, ◌^◌, inl, inr, ap, sym, ◌∙◌, arith}
use Rattle.std.specs.Prelude.{◌==◌, nat_lt}
use Rattle.std.specs.Int.{w64, bit_at}
use Rattle.std.proofs.lemmas.Bool.{cases_Bool, ltb-true, ltb-false}
use Rattle.std.proofs.lemmas.Nat.{and_le_l}
use Rattle.std.proofs.lemmas.Nat.Bits.{bit_at_above, bit_at_clear_same, bit_at_clear_other}
use Rattle.tomex_bus.proofs.Bits.{has_none}
use Rattle.tomex_bus.proofs.small.without.Goals as goal

-- past the ring no set has members
both_above : (set new x : ℕ) → new ≤ set → set < 2 ^ 64 → 64 ≤ x → bit_at new x ≡ bit_at set x
both_above set new x less fits above = bit_at_above new 64 x (omega arith) above
    ∙ sym (bit_at_above set 64 x fits above)

pub returns : goal.returns
returns c = record {
  same = has_none _ c.args.number (bit_at_clear_same w64 c.args.set c.args.number c.requires);
  others = λ x l apart. ap (λ b. b == 1) (elim (cases_Bool (nat_lt x 64)) [
    | inl e ↦ bit_at_clear_other w64 c.args.set c.args.number c.requires x (ltb-true _ _ e) apart
    | inr e ↦ both_above c.args.set _ x (and_le_l c.args.set _) c.ranges.set.fits (ltb-false _ _ e)
  ]);
}
