-- What each list lacks, list by list.
use Rattle.std.proofs.Common.{◌≡◌, ◌≢◌, ℕ, ◌+◌, ◌<◌, ◌≤◌, ◌==◌, arith, ap, sym, subst, ◌∙◌, List, [], ◌∷◌, ◌++◌}
use Rattle.std.proofs.Common.{length, get_or, slice_get, inl, inr, Some, All}
use Rattle.std.proofs.lemmas.Bool.{cases_Bool}
use Rattle.std.proofs.lemmas.Bool.Decides.{nat_tests}
use Rattle.std.proofs.lemmas.List.{get_or_append_left, get_or_push, length_push}
use Rattle.std.proofs.lemmas.Option.{get_or_from_slice_get, slice_get-get_or, slice_get_within}
use Rattle.tomex_study.specs.Study.{DesignSpace, config_at}
use Rattle.tomex_config.specs.Parts.{part_at}
use Rattle.tomex_choices.specs.Asking.{AreFound, IsFound, last_change}
use Rattle.tomex_choices.specs.Weighed.{AreWeighed, IsWeighed}
use Rattle.tomex_choices.specs.declared.found.ListFound.{ListFound}
use Rattle.tomex_choices.specs.declared.new_machine.NewMachine.{NewMachine}
use Rattle.tomex_choices.specs.declared.weighing.WeighedList.{WeighedList}
use Rattle.tomex_choices.proofs.EnoughFrom.{change_below}
use Rattle.tomex_choices.proofs.Reading.{few_of}
use Rattle.tomex_choices.proofs.WeighedLists.{some_of}

-- an item of a list, or the one that was pushed
get_push : {X : Type 0} (xs : List X) (x y : X) (k : ℕ) → slice_get (xs ++ x ∷ []) k ≡ Some y → k ≢ length xs
    → slice_get xs k ≡ Some y
get_push xs x y k at apart =
    let within : k < length (xs ++ x ∷ []) = slice_get_within (xs ++ x ∷ []) k y at in
    let long : length (xs ++ x ∷ []) ≡ length xs + 1 = length_push xs x in
    let low : k < length xs = omega (arith, within, long) in
    slice_get-get_or xs k y low
    ∙ ap (λ (z : _). Some z) (sym (get_or_append_left xs (x ∷ []) y k low)
    ∙ get_or_from_slice_get (xs ++ x ∷ []) k y y at)

last_push : {X : Type 0} (xs : List X) (x y : X) (k : ℕ) → slice_get (xs ++ x ∷ []) k ≡ Some y → k ≡ length xs
    → x ≡ y
last_push xs x y k at here =
    sym (get_or_push xs x y k (sym here)) ∙ get_or_from_slice_get (xs ++ x ∷ []) k y y at

-- those so far are weighed
abbrev pub AreWeighedSoFar : {A : Type 0} → DesignSpace → List (WeighedList A) → Type 0
AreWeighedSoFar {A} s lists =
    (place : ℕ) (l : WeighedList A) → slice_get lists place ≡ Some l → IsWeighed s (part_at place) l

pub none_weighed : {A : Type 0} (s : DesignSpace) (lists : List (WeighedList A)) → lists ≡ []
    → AreWeighedSoFar s lists
none_weighed s lists none place l at =
    let low : place < length lists = slice_get_within lists place l at in
    absurd (let e = ap length none in omega (arith, low, e))

pub one_weighed : {A : Type 0} (s : DesignSpace) (before after : List (WeighedList A)) (w : WeighedList A)
    → after ≡ before ++ w ∷ [] → IsWeighed s (part_at (length before)) w → AreWeighedSoFar s before
    → AreWeighedSoFar s after
one_weighed s before after w is own so_far place l at =
    let there : slice_get (before ++ w ∷ []) place ≡ Some l =
    ap (λ (xs : List (WeighedList _)). slice_get xs place) (sym is) ∙ at in
    elim (cases_Bool (place == length before)) [
      | inl e ↦
          let here : place ≡ length before = grind (arith, nat_tests) in
          subst (IsWeighed s (part_at place)) (last_push before w l place there here)
          (subst (λ (n : ℕ). IsWeighed s (part_at n) w) (sym here) own)
      | inr e ↦
          let apart : place ≢ length before = λ same. grind (arith, nat_tests) in
          so_far place l (get_push before w l place there apart)
    ]

pub all_are_weighed : {A : Type 0} (s : DesignSpace) (lists : List (WeighedList A)) (n : ℕ) → n ≡ 13
    → length lists ≡ n → AreWeighedSoFar s lists → AreWeighed s lists
all_are_weighed s lists n many count are = record { count = count ∙ many; each = are }

-- the last change of each list is small

few_change : (s : DesignSpace) (from to place : ℕ) (machines : List NewMachine) (change : ℕ)
    → IsFound s from to place machines change → change ≤ 16
few_change s from to place machines change found = elim found.reached [
  | inl none ↦ omega (arith, none)
  | inr w ↦
      let l = change_below s.programs (part_at place) (config_at s w.0) (some_of (part_at place)) in
      let few = few_of (part_at place) in
      let same : last_change s.programs (part_at place) (config_at s w.0) ≡ change = w.2 in
      omega (arith, l, few, same)
]

pub few_changes : {A : Type 0} (s : DesignSpace) (from to : ℕ) (lists : List (ListFound A)) → AreFound s from to lists
    → All (λ l. l.last_change ≤ 16) lists
few_changes s from to lists found k d low =
    few_change s from to k (get_or lists k d).machines.items (get_or lists k d).last_change
    (found.each k (get_or lists k d) (slice_get-get_or lists k d low))
