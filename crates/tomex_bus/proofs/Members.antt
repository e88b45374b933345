-- Turns of a loop over the members of a set, the least first.
use Rattle.std.proofs.Common.{ℕ, zero, suc, ◌+◌, ◌-◌, ◌^◌, Bool, true, false, ◌≡◌, ◌≤◌, ◌<◌, ◌∙◌, arith, inl, inr, ap}
use Rattle.std.proofs.Common.{refl, sym}
use Rattle.std.specs.Prelude.{◌==◌, ◌&&◌, nat_le}
use Rattle.std.proofs.lemmas.Bool.{cases_Bool, cases_order, both_ways, eqb-true, eqb-false, le-leb, leb-true, lt-leb}
use Rattle.std.proofs.lemmas.Bool.{and_parts, and_right}
use Rattle.std.specs.Int.{trailing_zeros, w128}
use Rattle.std.proofs.lemmas.Nat.Bits.{bit_at-trailing_zeros}
use Rattle.tomex_bus.specs.Sets.{has, IsSingle, IsWithout}
use Rattle.tomex_bus.proofs.Bits.{has_none, has_one, none_in}

pub none_rest : (rest x : ℕ) → rest ≡ 0 → has rest x ≡ false
none_rest rest x e = rw e (none_in x)

-- the rest of a set is in it
pub inside_left : (set rest left x : ℕ) → ((y : ℕ) → y < 128 → has rest y ≡ true → has set y ≡ true)
    → IsWithout rest x left → (y : ℕ) → y < 128 → has left y ≡ true → has set y ≡ true
inside_left set rest left x inside without y l e = elim (cases_Bool (x == y)) [
  | inl k ↦ let same : x ≡ y = eqb-true x y k in absurd (both_ways (has left x) without.same (rw same e))
  | inr k ↦ inside y l (sym (without.others y l (λ z. eqb-false x y k (sym z))) ∙ e)
]

-- the members from a number on are left
pub record AreFrom (set rest k : ℕ) : Type 0 where
  pub left : (x : ℕ) → x < 128 → has rest x ≡ (has set x && nat_le k x)

pub all_left : (set : ℕ) → AreFrom set set 0
all_left set = record { left = λ x l. rw (le-leb 0 x (omega arith)) (sym (and_right_true (has set x))) }
  where
    and_right_true : (a : Bool) → (a && true) ≡ a
    and_right_true true = refl
    and_right_true false = refl

pub least_from : (set rest k x : ℕ) → AreFrom set rest k → x < 128 → has rest x ≡ true → k ≤ x
least_from set rest k x so l e = leb-true k x (and_parts (has set x) (nat_le k x) (sym (so.left x l) ∙ e)).1

pub least_in : (set rest k x : ℕ) → AreFrom set rest k → x < 128 → has rest x ≡ true → has set x ≡ true
least_in set rest k x so l e = (and_parts (has set x) (nat_le k x) (sym (so.left x l) ∙ e)).0

-- none is passed over
pub none_between : (set rest k x : ℕ) → AreFrom set rest k → x < 128 → ((i : ℕ) → i < x → has rest i ≡ false) → (j : ℕ)
    → k ≤ j → j < x → has set j ≡ false
none_between set rest k x so l least j from to = elim (cases_Bool (has set j)) [
  | inr e ↦ e
  | inl e ↦ absurd (both_ways (has rest j) (least j to) (so.left j (omega arith) ∙ rw (e, le-leb k j from) refl))
]

pub none_after : (set rest k : ℕ) → AreFrom set rest k → rest ≡ 0 → (j : ℕ) → k ≤ j → j < 128 → has set j ≡ false
none_after set rest k so empty j from to = elim (cases_Bool (has set j)) [
  | inr e ↦ e
  | inl e ↦ absurd (both_ways (has rest j) (none_rest rest j empty) (so.left j to ∙ rw (e, le-leb k j from) refl))
]

pub left_from : (set rest left k x : ℕ) → AreFrom set rest k → x < 128 → has rest x ≡ true
    → ((i : ℕ) → i < x → has rest i ≡ false) → IsWithout rest x left → AreFrom set left (x + 1)
left_from set rest left k x so small member least without = record {
  left = λ y l. elim (cases_order y x) [
    | inl e ↦ rw e (without.same ∙ sym (rw (lt-leb (x + 1) x (omega arith)) (and_right (has set x) false refl)))
    | inr (inl less) ↦ without.others y l (λ z. absurd (omega arith))
        ∙ (least y less ∙ sym (rw (lt-leb (x + 1) y (omega arith)) (and_right (has set y) false refl)))
    | inr (inr more) ↦
        let from : k ≤ x = least_from set rest k x so small member in
        without.others y l (λ z. absurd (omega arith))
        ∙ (so.left y l ∙ rw (le-leb k y (omega arith), le-leb (x + 1) y (omega arith)) refl)
  ];
}

-- a property that each number outside the set keeps is kept up to the next member
pub up_to : (P : ℕ → Type 0) (set k n : ℕ) → ((j : ℕ) → k ≤ j → j < k + n → has set j ≡ false)
    → ((j : ℕ) → has set j ≡ false → P j → P (j + 1)) → P k → P (k + n)
up_to P set k zero none skip so = let e : k + 0 ≡ k = omega arith in rw e so
up_to P set k (suc n) none skip so =
    let e : k + suc n ≡ k + n + 1 = omega arith in
    rw e (skip (k + n) (none (k + n) (omega arith) (omega arith))
    (up_to P set k n (λ j from to. none j from (omega arith)) skip so))

pub skip_to : (P : ℕ → Type 0) (set k x : ℕ) → k ≤ x → ((j : ℕ) → k ≤ j → j < x → has set j ≡ false)
    → ((j : ℕ) → has set j ≡ false → P j → P (j + 1)) → P k → P x
skip_to P set k x l none skip so =
    let e : k + (x - k) ≡ x = omega arith in
    rw e at (up_to P set k (x - k) (λ j from to. none j from (omega arith)) skip so)

-- the least member of a set: no other is less
pub record IsLowest (set x : ℕ) : Type 0 where
  pub member : has set x ≡ true
  pub least : (i : ℕ) → i < x → has set i ≡ false

lowest_from : (set k n : ℕ) → ((i : ℕ) → i < k → has set i ≡ false) → has set (k + n) ≡ true → (x : ℕ) × IsLowest set x
lowest_from set k zero none some = let e : k + 0 ≡ k = omega arith in
    (k, record { member = rw e at some; least = none })
lowest_from set k (suc n) none some = elim (cases_Bool (has set k)) [
  | inl e ↦ (k, record { member = e; least = none })
  | inr e ↦
      let f : k + suc n ≡ suc k + n = omega arith in
      lowest_from set (suc k) n (λ i l. elim (cases_order i k) [
        | inl same ↦ rw same e
        | inr (inl less) ↦ none i less
        | inr (inr more) ↦ absurd (omega arith)
      ]) (rw f at some)
]

-- if the least member is the whole set, any two members are one
pub one_member : (set left : ℕ)
    → ((x : ℕ) → has set x ≡ true → ((i : ℕ) → i < x → has set i ≡ false) → IsWithout set x left) → left ≡ 0 → (a b : ℕ)
    → a < 128 → b < 128 → has set a ≡ true → has set b ≡ true → a ≡ b
one_member set left without empty a b l m ha hb =
    let first = lowest_from set 0 a (λ i k. absurd (omega arith)) (let e : 0 + a ≡ a = omega arith in rw e ha) in
    let out = without first.0 first.1.member first.1.least in
    is_it a l ha first.0 out ∙ sym (is_it b m hb first.0 out)
  where
    is_it : (y : ℕ) → y < 128 → has set y ≡ true → (x : ℕ) → IsWithout set x left → y ≡ x
    is_it y small member x out = elim (cases_Bool (y == x)) [
      | inl e ↦ eqb-true y x e
      | inr e ↦ absurd (both_ways (has left y) (none_rest left y empty) (out.others y small (eqb-false y x e) ∙ member))
    ]

-- a set that isn't empty has a least member
least_member : (set : ℕ) → 0 < set → set < 2 ^ 128 → (x : ℕ) × (x < 128) × (has set x ≡ true)
    × ((i : ℕ) → i < x → has set i ≡ false)
least_member set some fits =
    let first = bit_at-trailing_zeros w128 set some fits in
    (trailing_zeros w128 set, first.0, has_one _ _ first.1, λ i l. has_none _ i (first.2 i l))

-- if a member is left without the least, there are two
pub two_members : (set left : ℕ) → 0 < set → set < 2 ^ 128 → 0 < left → left < 2 ^ 128
    → ((x : ℕ) → has set x ≡ true → ((i : ℕ) → i < x → has set i ≡ false) → IsWithout set x left) → IsSingle set → ⊥
two_members set left some fits more fit without single =
    let least = least_member set some fits in
    let other = least_member left more fit in
    let gone : IsWithout set least.0 left = without least.0 least.2 least.3 in
    elim (cases_Bool (least.0 == other.0)) [
      | inl e ↦ both_ways (has left least.0) gone.same (ap (has left) (eqb-true least.0 other.0 e) ∙ other.2)
      | inr e ↦
          let there : has set other.0 ≡ true =
          sym (gone.others other.0 other.1 (λ z. eqb-false least.0 other.0 e (sym z))) ∙ other.2 in
          eqb-false least.0 other.0 e (single least.0 other.0 least.1 other.1 least.2 there)
    ]
