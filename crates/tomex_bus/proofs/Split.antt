-- A set of numbers below 128 by its two halves.
use Rattle.std.proofs.Common.{ℕ, ◌+◌, ◌-◌, ◌*◌, ◌/◌, ◌%◌, ◌^◌, true, false, ◌≡◌, ◌≤◌, ◌<◌, ◌∙◌, arith, inl, inr, ap}
use Rattle.std.proofs.Common.{sym}
use Rattle.std.specs.Prelude.{nat_lt}
use Rattle.std.specs.Int.{w64}
use Rattle.std.proofs.lemmas.Bool.{cases_Bool, both_ways, ltb-true, ltb-false}
use Rattle.std.proofs.lemmas.Nat.Bits.{bit_at_above, bit_at-trailing_zeros}
use Rattle.tomex_bus.specs.Sets.{has, IsWithout}
use Rattle.tomex_bus.proofs.Bits.{cut, has_none, has_one, none_in, shifted}

pub record AreHalves (set lower upper : ℕ) : Type 0 where
  pub near : (x : ℕ) → x < 64 → has set x ≡ has lower x
  pub far : (x : ℕ) → has set (64 + x) ≡ has upper x

pub halves_of : (set lower upper : ℕ) → lower ≡ set % 2 ^ 64 → upper ≡ set / 2 ^ 64 → AreHalves set lower upper
halves_of set lower upper low high = record {
  near = λ x l. sym (ap (λ h. has h x) low ∙ cut set 64 x l);
  far = λ x. sym (ap (λ h. has h x) high ∙ shifted set 64 x);
}

pub joined : (set lower upper : ℕ) → set ≡ 2 ^ 64 * upper + lower → lower < 2 ^ 64 → AreHalves set lower upper
joined set lower upper e fits = halves_of set lower upper (omega arith) (omega arith)

-- the members from 64 on, by the upper half
pub far_at : (set lower upper x : ℕ) → AreHalves set lower upper → 64 ≤ x → has set x ≡ has upper (x - 64)
far_at set lower upper x halves l = let e : 64 + (x - 64) ≡ x = omega arith in rw e at (halves.far (x - 64))

-- if the lower half has members, the least of all is one of them
pub least_near : (set lower upper x : ℕ) → AreHalves set lower upper → lower < 2 ^ 64 → 0 < lower
    → ((i : ℕ) → i < x → has set i ≡ false) → x < 64
least_near set lower upper x halves fits some least = elim (cases_Bool (nat_lt x 64)) [
  | inl e ↦ ltb-true _ _ e
  | inr e ↦
      let high : 64 ≤ x = ltb-false _ _ e in
      let first = (bit_at-trailing_zeros w64 lower (omega arith) fits).1 in
      absurd (both_ways (has lower _) (none high _) (has_one _ _ first))
]
  where
    none : 64 ≤ x → (i : ℕ) → has lower i ≡ false
    none high i = elim (cases_Bool (nat_lt i 64)) [
      | inl e ↦ let l : i < 64 = ltb-true _ _ e in sym (halves.near i l) ∙ least i (omega arith)
      | inr e ↦ has_none lower i (bit_at_above lower 64 i fits (ltb-false _ _ e))
    ]

-- if it has none, none is below 64
pub none_near : (set upper x : ℕ) → AreHalves set 0 upper → x < 64 → has set x ≡ false
none_near set upper x halves l = halves.near x l ∙ none_in x

pub least_far : (set upper x : ℕ) → AreHalves set 0 upper → has set x ≡ true → 64 ≤ x
least_far set upper x halves member = elim (cases_Bool (nat_lt x 64)) [
  | inl e ↦ absurd (both_ways (has set x) (none_near set upper x halves (ltb-true _ _ e)) member)
  | inr e ↦ ltb-false _ _ e
]

-- the half with the least member loses it, the other stays
pub near_lost : (set lower upper less new x : ℕ) → AreHalves set lower upper → AreHalves new less upper → x < 64
    → IsWithout lower x less → IsWithout set x new
near_lost set lower upper less new x before after l lost = record {
  same = after.near x l ∙ lost.same;
  others = λ y small apart. elim (cases_Bool (nat_lt y 64)) [
    | inl e ↦ let low : y < 64 = ltb-true _ _ e in
        after.near y low ∙ (lost.others y small apart ∙ sym (before.near y low))
    | inr e ↦ let high : 64 ≤ y = ltb-false _ _ e in
        far_at new less upper y after high ∙ sym (far_at set lower upper y before high)
  ];
}

pub far_lost : (set lower upper less new x : ℕ) → AreHalves set lower upper → AreHalves new lower less → 64 ≤ x
    → IsWithout upper (x - 64) less → IsWithout set x new
far_lost set lower upper less new x before after l lost = record {
  same = far_at new lower less x after l ∙ lost.same;
  others = λ y small apart. elim (cases_Bool (nat_lt y 64)) [
    | inl e ↦ let low : y < 64 = ltb-true _ _ e in after.near y low ∙ sym (before.near y low)
    | inr e ↦
        let high : 64 ≤ y = ltb-false _ _ e in
        far_at new lower less y after high
        ∙ (lost.others (y - 64) (omega arith) (λ same. apart (omega arith))
        ∙ sym (far_at set lower upper y before high))
  ];
}
