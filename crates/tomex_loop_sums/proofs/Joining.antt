-- Extents of more steps are joined ones.
use Rattle.std.proofs.Common.{ℕ, ◌+◌, ◌<◌, ◌≡◌, ◌∙◌, Bool, true, false, arith, refl, sym, ap, inl, inr, min, max}
use Rattle.std.proofs.Common.{List, Option, Some, None, length, get_or, replicate, set}
use Rattle.std.specs.Prelude.{IfSome, ◌==◌, ◌&&◌, ◌||◌, nat_lt}
use Rattle.std.proofs.lemmas.Bool.{and_right, cases_eq, cases_lt, cases_order, eq-eqb, eqb-true, le-ltb, lt-ltb, ne_eqb}
use Rattle.std.proofs.lemmas.Bool.{or_cases, or_left, or_right}
use Rattle.std.proofs.Math.Bool.{and-true, or-false}
use Rattle.std.proofs.lemmas.List.{get_or-replicate, get_or-set_other, get_or-set_same, length-set}
use Rattle.tomex_loop_sums.specs.declared.extents.Extent.{Extent}
use Rattle.tomex_loop_sums.specs.Extents.{HasAddress, IsExtent, added, is_at, joined}

has_too : (p q : ℕ → Bool) (addresses : List ℕ) (a b : ℕ)
    → ((s : ℕ) → s < length addresses → p s ≡ true → q s ≡ true) → a ≡ b
    → HasAddress p addresses a → HasAddress q addresses b
has_too p q addresses a b more same has = record {
  step = has.step;
  before = has.before;
  is = more has.step has.before has.is;
  at = has.at ∙ same;
}

pub same_extent : (p q : ℕ → Bool) (addresses : List ℕ) (o : Option Extent)
    → ((s : ℕ) → s < length addresses → q s ≡ p s) → IsExtent p addresses o → IsExtent q addresses o
same_extent p q addresses None same was = λ s l. same s l ∙ was s l
same_extent p q addresses (Some e) same was = record {
  first = has_too p q addresses e.first e.first (λ s l is. same s l ∙ is) refl was.first;
  last = has_too p q addresses e.last e.last (λ s l is. same s l ∙ is) refl was.last;
  low = λ s l is. was.low s l (sym (same s l) ∙ is);
  high = λ s l is. was.high s l (sym (same s l) ∙ is);
}

joined_is : (p q : ℕ → Bool) (addresses : List ℕ) (a b : Option Extent) → IsExtent p addresses a
    → IsExtent q addresses b → IsExtent (λ s. p s || q s) addresses (joined a b)
joined_is p q addresses None b one two =
    same_extent q (λ s. p s || q s) addresses b (λ s l. ap (λ (t : Bool). t || q s) (one s l)) two
joined_is p q addresses (Some a) None one two =
    same_extent p (λ s. p s || q s) addresses (Some a)
    (λ s l. ap (λ (t : Bool). p s || t) (two s l) ∙ or-false (p s)) one
joined_is p q addresses (Some a) (Some b) one two =
    let both : ℕ → Bool = λ s. p s || q s in
    let left = λ (s : ℕ) (l : s < length addresses) (is : p s ≡ true). or_left (p s) (q s) is in
    let right = λ (s : ℕ) (l : s < length addresses) (is : q s ≡ true). or_right (p s) (q s) is in
    record {
      first = elim (cases_lt a.first b.first) [
        | inl less ↦ has_too p both addresses a.first (min a.first b.first) left (omega (arith, less)) one.first
        | inr more ↦ has_too q both addresses b.first (min a.first b.first) right (omega (arith, more)) two.first
      ];
      last = elim (cases_lt a.last b.last) [
        | inl less ↦ has_too q both addresses b.last (max a.last b.last) right (omega (arith, less)) two.last
        | inr more ↦ has_too p both addresses a.last (max a.last b.last) left (omega (arith, more)) one.last
      ];
      low = λ s l is. elim (or_cases (p s) (q s) is) [
        | inl here ↦ let m = one.low s l here in omega (arith, m)
        | inr here ↦ let m = two.low s l here in omega (arith, m)
      ];
      high = λ s l is. elim (or_cases (p s) (q s) is) [
        | inl here ↦ let m = one.high s l here in omega (arith, m)
        | inr here ↦ let m = two.high s l here in omega (arith, m)
      ];
    }

-- one more extent at a place
pub added_is : (p q r : ℕ → Bool) (addresses : List ℕ) (extents : List (Option Extent)) (place : Option ℕ)
    (e : Option Extent) (v : ℕ) → IfSome place (λ n. n < length extents)
    → ((s : ℕ) → s < length addresses → r s ≡ (p s || (is_at v place && q s))) → IsExtent q addresses e
    → IsExtent p addresses (get_or extents v None) → IsExtent r addresses (get_or (added place e extents) v None)
added_is p q r addresses extents None e v low more new was =
    same_extent p r addresses (get_or extents v None) (λ s l. more s l ∙ or-false (p s)) was
added_is p q r addresses extents (Some n) e v low more new was = elim (cases_eq n v) [
  | inl same ↦
      let wrote : get_or (set extents n (joined (get_or extents n None) e)) v None ≡ joined (get_or extents v None) e =
      ap (λ (j : ℕ). get_or (set extents n (joined (get_or extents n None) e)) j None) (sym same)
      ∙ get_or-set_same extents n (joined (get_or extents n None) e) None low
      ∙ ap (λ (j : ℕ). joined (get_or extents j None) e) same in
      rw wrote (same_extent (λ s. p s || q s) r addresses (joined (get_or extents v None) e)
      (λ s l. more s l ∙ ap (λ (t : Bool). p s || (t && q s)) (eq-eqb n v same))
      (joined_is p q addresses (get_or extents v None) e was new))
  | inr other ↦
      let kept = get_or-set_other extents n v (joined (get_or extents n None) e) None (λ (z : v ≡ n). other (sym z)) in
      rw kept (same_extent p r addresses (get_or extents v None)
      (λ s l. more s l ∙ ap (λ (t : Bool). p s || (t && q s)) (ne_eqb n v other) ∙ or-false (p s)) was)
]

pub none_is : (p : ℕ → Bool) (addresses : List ℕ) (extents : List (Option Extent)) (count v : ℕ)
    → extents ≡ replicate count None → v < count → ((s : ℕ) → s < length addresses → p s ≡ false)
    → IsExtent p addresses (get_or extents v None)
none_is p addresses extents count v are l fails =
    let here : get_or extents v None ≡ None = ap (λ (xs : List (Option Extent)). get_or xs v None) are
    ∙ get_or-replicate {A = Option Extent} count v None None l in
    rw here fails

-- a single step
pub one_is : (addresses : List ℕ) (k : ℕ) (e : Extent) → k < length addresses → e.first ≡ get_or addresses k 0
    → e.last ≡ get_or addresses k 0 → IsExtent (λ s. s == k) addresses (Some e)
one_is addresses k e l first last =
    let here : (s : ℕ) → (s == k) ≡ true → get_or addresses s 0 ≡ get_or addresses k 0 =
    λ s is. ap (λ (j : ℕ). get_or addresses j 0) (eqb-true s k is) in
    record {
      first = record { step = k; before = l; is = eq-eqb k k refl; at = sym first };
      last = record { step = k; before = l; is = eq-eqb k k refl; at = sym last };
      low = λ s m is. let h = here s is in omega (arith, h, first);
      high = λ s m is. let h = here s is in omega (arith, h, last);
    }

-- a step is one of the first k, and its own visit is v
abbrev pub is_here : List (Option ℕ) → ℕ → ℕ → ℕ → Bool
is_here places k v step = nat_lt step k && is_at v (get_or places step None)

pub here_more : (places : List (Option ℕ)) (k v s : ℕ)
    → is_here places (k + 1) v s ≡ (is_here places k v s || (is_at v (get_or places k None) && (s == k)))
here_more places k v s = elim (cases_order s k) [
  | inl same ↦
      let now : is_at v (get_or places s None) ≡ is_at v (get_or places k None) =
      ap (λ (j : ℕ). is_at v (get_or places j None)) same in
      rw (lt-ltb s (k + 1) (omega (arith, same)), le-ltb s k (omega (arith, same)), eq-eqb s k same, now)
      (sym (and-true (is_at v (get_or places k None))))
  | inr (inl less) ↦
      rw (
        lt-ltb s (k + 1) (omega (arith, less)),
        lt-ltb s k less,
        ne_eqb s k (λ (z : s ≡ k). absurd (omega (arith, z, less))),
        and_right (is_at v (get_or places k None)) false refl,
      ) (sym (or-false (is_at v (get_or places s None))))
  | inr (inr more) ↦
      rw (
        le-ltb s (k + 1) (omega (arith, more)),
        le-ltb s k (omega (arith, more)),
        ne_eqb s k (λ (z : s ≡ k). absurd (omega (arith, z, more))),
        and_right (is_at v (get_or places k None)) false refl,
      ) refl
]

pub here_all : (places : List (Option ℕ)) (k v s : ℕ) → s < k
    → is_at v (get_or places s None) ≡ is_here places k v s
here_all places k v s l = rw (lt-ltb s k l) refl

pub length_added : (place : Option ℕ) (e : Option Extent) (extents : List (Option Extent))
    → length (added place e extents) ≡ length extents
length_added None e extents = refl
length_added (Some n) e extents = length-set extents n (joined (get_or extents n None) e)

pub here_none : (places : List (Option ℕ)) (v s : ℕ) → is_here places 0 v s ≡ false
here_none places v s = rw (le-ltb s 0 (omega arith)) refl
