-- Bits of a number as members of a set.
use Rattle.std.proofs.Common.{ℕ, zero, suc, ◌-◌, ◌+◌, ◌/◌, ◌%◌, ◌^◌, Bool, true, false, ◌≡◌, ◌≤◌, ◌<◌, arith, inl, inr}
use Rattle.std.proofs.Common.{ap, refl, sym, ◌∙◌}
use Rattle.std.specs.Prelude.{◌==◌, ◌&&◌, ◌||◌, ◌≢◌, not, max, min}
use Rattle.std.specs.Int.{w64, bit_at, bit_not}
use Rattle.std.specs.Int.Bits.{bit_and}
use Rattle.std.proofs.lemmas.Nat.Bits.{bit_at_and, bit_at_lowest, bit_at_not, bit_at-suc, bit_at-zero}
use Rattle.std.proofs.lemmas.Nat.{field_of, pow-add}
use Rattle.std.proofs.Math.Pow.{mod-mod-pow}
use Rattle.std.proofs.Math.Nat.{div-div-eq-div-mul}
use Rattle.std.proofs.lemmas.Bool.{and_parts, cases_order, both_ways, eq-eqb, eqb-true, eqb-false}
use Rattle.tomex_bus.specs.Sets.{has, IsWithout}

pub has_one : (set x : ℕ) → bit_at set x ≡ 1 → has set x ≡ true
has_one set x e = eq-eqb (bit_at set x) 1 e

pub has_none : (set x : ℕ) → bit_at set x ≡ 0 → has set x ≡ false
has_none set x e = ap (λ b. b == 1) e

-- a number that is no greater and doesn't have one of the bits is less
pub fewer : (set new x : ℕ) → new ≤ set → has set x ≡ true → has new x ≡ false → new < set
fewer set new x l had lost = elim (cases_order new set) [
  | inl e ↦ absurd (both_ways (has set x) (ap (λ n. has n x) (sym e) ∙ lost) had)
  | inr (inl less) ↦ less
  | inr (inr more) ↦ absurd (omega arith)
]

pub bit_low : (set x : ℕ) → bit_at set x < 2
bit_low set x = omega arith

pub one_of : (a b : ℕ) → a < 2 → b < 2 → (max a b == 1) ≡ ((a == 1) || (b == 1))
one_of zero zero k l = refl
one_of zero (suc b) k l = let e : b ≡ 0 = omega arith in rw e refl
one_of (suc a) zero k l = let e : a ≡ 0 = omega arith in rw e refl
one_of (suc a) (suc b) k l = let e : a ≡ 0 = omega arith in let f : b ≡ 0 = omega arith in rw (e, f) refl

pub but_of : (a b : ℕ) → a < 2 → b < 2 → (min a (1 - b) == 1) ≡ ((a == 1) && not (b == 1))
but_of zero b k l = let e : min 0 (1 - b) ≡ 0 = omega arith in rw e refl
but_of (suc a) zero k l = let e : a ≡ 0 = omega arith in rw e refl
but_of (suc a) (suc b) k l = let e : a ≡ 0 = omega arith in let f : b ≡ 0 = omega arith in rw (e, f) refl

pub both_of : (a b : ℕ) → a < 2 → b < 2 → (min a b == 1) ≡ ((a == 1) && (b == 1))
both_of zero b k l = let e : min 0 b ≡ 0 = omega arith in rw e refl
both_of (suc a) zero k l = let e : a ≡ 0 = omega arith in rw e refl
both_of (suc a) (suc b) k l = let e : a ≡ 0 = omega arith in let f : b ≡ 0 = omega arith in rw (e, f) refl

pub none_in : (x : ℕ) → has 0 x ≡ false
none_in x = has_none 0 x (bit_at-zero x)

-- a set with a member isn't empty
pub member_some : (set x : ℕ) → has set x ≡ true → set ≢ 0
member_some set x e z = both_ways (has set x) (rw z (none_in x)) e

bit_of : (set x : ℕ) → has set x ≡ true → bit_at set x ≡ 1
bit_of set x e = eqb-true (bit_at set x) 1 e

no_bit_of : (set x : ℕ) → has set x ≡ false → bit_at set x ≡ 0
no_bit_of set x e =
    let low : bit_at set x < 2 = bit_low set x in
    zero_of (bit_at set x) low (eqb-false (bit_at set x) 1 e)
  where
    zero_of : (b : ℕ) → b < 2 → b ≢ 1 → b ≡ 0
    zero_of zero l apart = refl
    zero_of (suc b) l apart = let e : b ≡ 0 = omega arith in absurd (apart (rw e refl))

-- a number less one no longer has its lowest bit
lost_less_one : (n k : ℕ) → bit_at n k ≡ 1 → ((j : ℕ) → j < k → bit_at n j ≡ 0) → bit_at (n - 1) k ≡ 0
lost_less_one n zero one none =
    let odd : n % 2 ≡ 1 = sym (bit_at_lowest n) ∙ one in
    bit_at_lowest (n - 1) ∙ omega arith
lost_less_one n (suc k) one none =
    let even : n % 2 ≡ 0 = sym (bit_at_lowest n) ∙ none 0 (omega arith) in
    let half : (n - 1) / 2 ≡ n / 2 - 1 = omega arith in
    bit_at-suc (n - 1) k ∙ (ap (λ m. bit_at m k) half
    ∙ lost_less_one (n / 2) k (sym (bit_at-suc n k) ∙ one) (λ j l. sym (bit_at-suc n j)
    ∙ none (suc j) (omega arith)))

-- and has those above as before
kept_less_one : (n k i : ℕ) → bit_at n k ≡ 1 → ((j : ℕ) → j < k → bit_at n j ≡ 0) → k < i
    → bit_at (n - 1) i ≡ bit_at n i
kept_less_one n k zero one none l = absurd (omega arith)
kept_less_one n zero (suc i) one none l =
    let odd : n % 2 ≡ 1 = sym (bit_at_lowest n) ∙ one in
    let half : (n - 1) / 2 ≡ n / 2 = omega arith in
    bit_at-suc (n - 1) i ∙ (ap (λ m. bit_at m i) half ∙ sym (bit_at-suc n i))
kept_less_one n (suc k) (suc i) one none l =
    let even : n % 2 ≡ 0 = sym (bit_at_lowest n) ∙ none 0 (omega arith) in
    let half : (n - 1) / 2 ≡ n / 2 - 1 = omega arith in
    bit_at-suc (n - 1) i ∙ (ap (λ m. bit_at m i) half
    ∙ (kept_less_one (n / 2) k i (sym (bit_at-suc n k) ∙ one) (λ j m. sym (bit_at-suc n j)
    ∙ none (suc j) (omega arith)) (omega arith) ∙ sym (bit_at-suc n i)))

min_none : (a b : ℕ) → b ≡ 0 → min a b ≡ 0
min_none a b e = omega arith

none_min : (a b : ℕ) → a ≡ 0 → min a b ≡ a
none_min a b e = omega arith

min_same : (a b : ℕ) → b ≡ a → min a b ≡ a
min_same a b e = omega arith

-- a set and the number before its own
pub lowest_out : (set x : ℕ) → has set x ≡ true → ((i : ℕ) → i < x → has set i ≡ false)
    → IsWithout set x (bit_and set (set - 1))
lowest_out set x member least =
    let one : bit_at set x ≡ 1 = bit_of set x member in
    let none = λ (j : ℕ) (l : j < x). no_bit_of set j (least j l) in
    record {
      same = has_none (bit_and set (set - 1)) x (bit_at_and set (set - 1) x
          ∙ min_none (bit_at set x) (bit_at (set - 1) x) (lost_less_one set x one none));
      others = λ y l apart. ap (λ b. b == 1) (bit_at_and set (set - 1) y ∙ elim (cases_order y x) [
        | inl e ↦ absurd (apart e)
        | inr (inl less) ↦ none_min (bit_at set y) (bit_at (set - 1) y) (none y less)
        | inr (inr more) ↦ min_same (bit_at set y) (bit_at (set - 1) y) (kept_less_one set x y one none more)
      ]);
    }

-- the members of a shifted set
pub shifted : (n k i : ℕ) → has (n / 2 ^ k) i ≡ has n (k + i)
shifted n k i = ap (λ m. m % 2 == 1) (div-div-eq-div-mul n (2 ^ k) (2 ^ i) ∙ ap (λ m. n / m) (sym (pow-add 2 k i)))

abbrev same : Bool → Bool → Bool
same true b = b
same false b = not b

-- two tests agree below a number
abbrev pub agree : (ℕ → Bool) → (ℕ → Bool) → ℕ → Bool
agree f g zero = true
agree f g (suc n) = same (f n) (g n) && agree f g n

pub agreed : (f g : ℕ → Bool) (n : ℕ) → agree f g n ≡ true → (x : ℕ) → x < n → f x ≡ g x
agreed f g zero e x l = absurd (omega arith)
agreed f g (suc n) e x l =
    let two = and_parts (same (f n) (g n)) (agree f g n) e in
    elim (cases_order x n) [
      | inl k ↦ rw k (is_same (f n) (g n) two.0)
      | inr (inl less) ↦ agreed f g n two.1 x less
      | inr (inr more) ↦ absurd (omega arith)
    ]
  where
    is_same : (a b : Bool) → same a b ≡ true → a ≡ b
    is_same true b k = sym k
    is_same false true k = k
    is_same false false k = refl

-- the members below k of a set cut off there
pub cut : (n k i : ℕ) → i < k → has (n % 2 ^ k) i ≡ has n i
cut n k i l =
    let parts : (k - i) + i ≡ k = omega arith in
    let one : (k - i - 1) + 1 ≡ k - i = omega arith in
    ap (λ m. m % 2 == 1) (ap (λ j. n % 2 ^ j / 2 ^ i) (sym parts) ∙ field_of n (k - i) i)
    ∙ ap (λ b. b == 1) (ap (λ j. n / 2 ^ i % 2 ^ j % 2 ^ 1) (sym one) ∙ mod-mod-pow (n / 2 ^ i) (k - i - 1) 1)

not_of : (b : ℕ) → b < 2 → (1 - b == 1) ≡ not (b == 1)
not_of zero l = refl
not_of (suc b) l = let e : b ≡ 0 = omega arith in rw e refl

-- the members of a complement
pub complement : (set i : ℕ) → set < 2 ^ 64 → i < 64 → has (bit_not w64 set) i ≡ not (has set i)
complement set i fits l = ap (λ b. b == 1) (bit_at_not w64 set i fits l) ∙ not_of (bit_at set i) (bit_low set i)

-- the complement has the numbers that the set doesn't have, and the other way round
pub lacked : (b : Bool) → not b ≡ true → b ≡ false
lacked true e = sym e
lacked false e = refl

pub kept : (b : Bool) → not b ≡ false → b ≡ true
kept true e = refl
kept false e = sym e
