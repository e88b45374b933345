-- The least number that is enough is the one after the last with which something changes.
use Rattle.std.proofs.Common.{◌≡◌, ℕ, zero, suc, ◌+◌, ◌-◌, ◌<◌, ◌≤◌, ◌==◌, arith, ap, sym, refl, subst, ◌∙◌, List, []}
use Rattle.std.proofs.Common.{◌∷◌}
use Rattle.std.proofs.Common.{Bool, true, false, not, ◌||◌, ◌&&◌, inl, inr, ◌⊎◌, Option, Some}
use Rattle.std.specs.Prelude.{max, nat_le, unwrap_or}
use Rattle.std.specs.List.{filter, find, list_all, list_any, range_with_len}
use Rattle.std.proofs.lemmas.Bool.{both_ways, cases_Bool, false_from_ne_true}
use Rattle.std.proofs.lemmas.Bool.Decides.{nat_tests}
use Rattle.tomex_config.specs.Configuration.{Configuration}
use Rattle.tomex_study.specs.Program.{Workload}
use Rattle.tomex_study.specs.Study.{DesignSpace}
use Rattle.tomex_config.specs.declared.part.Part.{Part}
use Rattle.tomex_choices.specs.Asking.{changes_at, last_change}
use Rattle.tomex_config.specs.Parts.{most_of}
use Rattle.tomex_choices.specs.Enough.{enough, is_enough_on, stays_from, total_with}
use Rattle.tomex_survey.specs.Extremes.{greatest}
use Rattle.tomex_choices.specs.Passing.{Has}
use Rattle.tomex_choices.proofs.Members.{from_filter, has_filter}

-- all and some of a list

pub all_at : {X : Type 0} (p : X → Bool) (xs : List X) (x : X) → list_all p xs ≡ true → Has xs x → p x ≡ true
all_at p [] x all h = absurd h
all_at p (y ∷ ys) x all h = elim (cases_Bool (p y)) [
  | inl e ↦ at e h (subst (λ (b : Bool). (b && list_all p ys) ≡ true) e all) (λ a i. all_at p ys x a i)
  | inr e ↦ absurd (let f : false ≡ true = subst (λ (b : Bool). (b && list_all p ys) ≡ true) e all in cc)
]
  where
    at : p y ≡ true → Has (y ∷ ys) x → list_all p ys ≡ true
        → (list_all p ys ≡ true → Has ys x → p x ≡ true) → p x ≡ true
    at e (inl s) rest next = subst (λ (v : _). p v ≡ true) s e
    at e (inr i) rest next = next rest i

pub all_from : {X : Type 0} (p : X → Bool) (xs : List X) → ((x : X) → Has xs x → p x ≡ true) → list_all p xs ≡ true
all_from p [] f = refl
all_from p (y ∷ ys) f = rw (f y (inl refl)) (all_from p ys (λ x h. f x (inr h)))

pub any_at : {X : Type 0} (p : X → Bool) (xs : List X) → list_any p xs ≡ true → (x : X) × Has xs x × (p x ≡ true)
any_at p [] some = absurd (let f : false ≡ true = some in cc)
any_at p (y ∷ ys) some = elim (cases_Bool (p y)) [
  | inl e ↦ (y, inl refl, e)
  | inr e ↦
      let w = any_at p ys (subst (λ (b : Bool). (b || list_any p ys) ≡ true) e some) in
      (w.0, inr w.1, w.2)
]

pub any_from : {X : Type 0} (p : X → Bool) (xs : List X) (x : X) → Has xs x → p x ≡ true → list_any p xs ≡ true
any_from p [] x h e = absurd h
any_from p (y ∷ ys) x (inl s) e = rw (ap p s ∙ e) refl
any_from p (y ∷ ys) x (inr h) e =
    let rest = any_from p ys x h e in
    elim (cases_Bool (p y)) [ inl t ↦ rw t refl | inr t ↦ rw t rest ]

-- the numbers of a range

pub in_range : (a k n : ℕ) → a ≤ n → n < a + k → Has (range_with_len a k) n
in_range a zero n low high = absurd (omega arith)
in_range a (suc k) n low high = elim (cases_Bool (a == n)) [
  | inl e ↦ inl (grind (arith, nat_tests))
  | inr e ↦ let apart : a < n = grind (arith, nat_tests) in inr (in_range (a + 1) k n (omega arith) (omega arith))
]

pub from_range : (a k n : ℕ) → Has (range_with_len a k) n → (a ≤ n) × (n < a + k)
from_range a zero n h = absurd h
from_range a (suc k) n (inl s) = (omega (arith, s), omega (arith, s))
from_range a (suc k) n (inr h) = let w = from_range (a + 1) k n h in
    let low : a + 1 ≤ n = w.0 in
    let high : n < a + 1 + k = w.1 in
    (omega arith, omega arith)

-- the greatest of some numbers

pub greatest_most : (ns : List ℕ) (n : ℕ) → Has ns n → n ≤ greatest ns
greatest_most [] n h = absurd h
greatest_most (k ∷ ks) n (inl s) = omega (arith, s)
greatest_most (k ∷ ks) n (inr h) = let l : n ≤ greatest ks = greatest_most ks n h in omega arith

pub greatest_is : (ns : List ℕ) → (greatest ns ≡ 0) ⊎ Has ns (greatest ns)
greatest_is [] = inl refl
greatest_is (k ∷ ks) = elim (cases_Bool (nat_le (greatest ks) k)) [
  | inl e ↦ inr (inl (grind (arith, nat_tests)))
  | inr e ↦
      let same : greatest ks ≡ max k (greatest ks) = grind (arith, nat_tests) in
      elim (greatest_is ks) [
        | inl none ↦ inl (sym same ∙ none)
        | inr h ↦ inr (inr (subst (Has ks) same h))
      ]
]

-- the last change

pub change_low : (programs : List Workload) (part : Part) (c : Configuration) (n : ℕ) → 1 ≤ n → n ≤ most_of part
    → changes_at programs part c n ≡ true → n ≤ last_change programs part c
unfolding last_change
change_low programs part c n some few changes =
    greatest_most (filter (changes_at programs part c) (range_with_len 1 (most_of part))) n
    (has_filter (changes_at programs part c) (range_with_len 1 (most_of part)) n
    (in_range 1 (most_of part) n some (omega arith)) changes)

pub change_is : (programs : List Workload) (part : Part) (c : Configuration)
    → (last_change programs part c ≡ 0)
    ⊎ (changes_at programs part c (last_change programs part c) ≡ true)
    × (1 ≤ last_change programs part c) × (last_change programs part c ≤ most_of part)
unfolding last_change
change_is programs part c =
    let ns = filter (changes_at programs part c) (range_with_len 1 (most_of part)) in
    elim (greatest_is ns) [
      | inl none ↦ inl none
      | inr h ↦
          let w = from_filter (changes_at programs part c) (range_with_len 1 (most_of part)) (greatest ns) h in
          let r = from_range 1 (most_of part) (greatest ns) w.0 in
          let low : 1 ≤ greatest ns = r.0 in
          let high : greatest ns < 1 + most_of part = r.1 in
          inr (w.1, low, omega arith)
    ]

-- with the most nothing changes
most_same : (programs : List Workload) (part : Part) (c : Configuration)
    → changes_at programs part c (most_of part) ≡ true → ⊥
most_same programs part c e =
    let w = any_at (λ p. not (total_with c part p (most_of part) == total_with c part p (most_of part))) programs e in
    let f : not (total_with c part w.0 (most_of part) == total_with c part w.0 (most_of part)) ≡ true = w.2 in
    grind (arith, nat_tests)

pub change_below : (programs : List Workload) (part : Part) (c : Configuration) → 1 ≤ most_of part
    → last_change programs part c < most_of part
change_below programs part c some = elim (change_is programs part c) [
  | inl none ↦ omega (arith, none)
  | inr w ↦
      let high : last_change programs part c ≤ most_of part = w.2 in
      elim (cases_Bool (last_change programs part c == most_of part)) [
        | inl e ↦
            let same : last_change programs part c ≡ most_of part = grind (arith, nat_tests) in
            absurd (most_same programs part c
            (subst (λ (n : ℕ). changes_at programs part c n ≡ true) same w.0))
        | inr e ↦ grind (arith, nat_tests)
      ]
]

-- from which number on nothing changes on a configuration

enough_after : (programs : List Workload) (part : Part) (c : Configuration) (n : ℕ) → 1 ≤ n → n ≤ most_of part
    → last_change programs part c < n → is_enough_on programs part c n ≡ true
unfolding is_enough_on
enough_after programs part c n some few after =
    all_from (λ p. stays_from (total_with c part p) (most_of part) n) programs
    (λ p h. all_from (λ m. total_with c part p m == total_with c part p (most_of part))
    (range_with_len n (most_of part + 1 - n))
    (λ m i. let r = from_range n (most_of part + 1 - n) m i in
    let low : n ≤ m = r.0 in
    let high : m < n + (most_of part + 1 - n) = r.1 in
    elim (cases_Bool (total_with c part p m == total_with c part p (most_of part))) [
      | inl e ↦ e
      | inr e ↦
          let changes : changes_at programs part c m ≡ true =
          any_from (λ q. not (total_with c part q m == total_with c part q (most_of part))) programs p h (rw e refl) in
          let l : m ≤ last_change programs part c =
          change_low programs part c m (omega arith) (omega arith) changes in
          absurd (omega arith)
    ]))

not_enough : (programs : List Workload) (part : Part) (c : Configuration) (n : ℕ) → 1 ≤ n
    → n ≤ last_change programs part c → is_enough_on programs part c n ≡ false
unfolding is_enough_on
not_enough programs part c n some before = false_from_ne_true _ (λ e. elim (change_is programs part c) [
  | inl none ↦ omega (arith, none)
  | inr w ↦
      let k = last_change programs part c in
      let high : k ≤ most_of part = w.2 in
      let p = any_at (λ q. not (total_with c part q k == total_with c part q (most_of part))) programs w.0 in
      let stays = all_at (λ q. stays_from (total_with c part q) (most_of part) n) programs p.0 e p.1 in
      let same = all_at (λ m. total_with c part p.0 m == total_with c part p.0 (most_of part))
      (range_with_len n (most_of part + 1 - n)) k stays
      (in_range n (most_of part + 1 - n) k before (omega arith)) in
      let other : not (total_with c part p.0 k == total_with c part p.0 (most_of part)) ≡ true = p.2 in
      both_ways _ (grind (arith, nat_tests)) same
])

-- the first number of a range that passes
found_at : (p : ℕ → Bool) (a k g : ℕ) → a ≤ g → g < a + k → ((n : ℕ) → a ≤ n → n < g → p n ≡ false) → p g ≡ true
    → find p (range_with_len a k) ≡ Some g
found_at p a zero g low high before is = absurd (omega arith)
found_at p a (suc k) g low high before is = elim (cases_Bool (a == g)) [
  | inl e ↦
      let same : a ≡ g = grind (arith, nat_tests) in
      let passes : p a ≡ true = ap p same ∙ is in
      rw passes (ap (λ (n : ℕ). Some n) same)
  | inr e ↦
      let less : a < g = grind (arith, nat_tests) in
      rw (before a (omega arith) less)
      (found_at p (a + 1) k g (omega arith) (omega arith) (λ n l h. before n (omega arith) h) is)
]

-- of all rows
pub enough_is : (s : DesignSpace) (part : Part) (change : ℕ) → 1 ≤ most_of part
    → ((c : Configuration) → Has s.rows c → last_change s.programs part c ≤ change)
    → (change ≡ 0) ⊎ ((c : Configuration) × Has s.rows c × (last_change s.programs part c ≡ change))
    → change < most_of part → enough s part ≡ change + 1
unfolding enough
enough_is s part change some most reached below =
    ap (λ (o : Option ℕ). unwrap_or o (most_of part))
    (found_at (λ n. list_all (λ c. is_enough_on s.programs part c n) s.rows) 1 (most_of part) (change + 1)
    (omega arith) (omega arith)
    (λ n l h. false_from_ne_true _ (λ e. elim reached [
      | inl none ↦ omega (arith, none)
      | inr w ↦
          let is : last_change s.programs part w.0 ≡ change = w.2 in
          both_ways _ (not_enough s.programs part w.0 n l (omega (arith, is)))
          (all_at (λ c. is_enough_on s.programs part c n) s.rows w.0 e w.1)
    ]))
    (all_from (λ c. is_enough_on s.programs part c (change + 1)) s.rows
    (λ c h. let l : last_change s.programs part c ≤ change = most c h in
    enough_after s.programs part c (change + 1) (omega arith) (omega arith) (omega arith))))
