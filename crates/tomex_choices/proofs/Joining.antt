-- What was found in two stretches is put together list by list, and of all stretches one after another.
use Rattle.std.proofs.Common.{◌≡◌, ◌≢◌, ℕ, ◌+◌, ◌-◌, ◌<◌, ◌≤◌, ◌==◌, arith, ap, sym, refl, subst, ◌∙◌, List, [], ◌∷◌}
use Rattle.std.proofs.Common.{length}
use Rattle.std.proofs.Common.{get_or, drop, slice_get, inl, inr, Some}
use Rattle.std.specs.Prelude.{nat_lt}
use Rattle.std.specs.List.{AllZip}
use Rattle.std.proofs.Math.ListN.{set, length-set}
use Rattle.std.proofs.lemmas.Bool.{cases_Bool}
use Rattle.std.proofs.lemmas.Bool.Decides.{nat_tests}
use Rattle.std.proofs.lemmas.List.{drop_all, drop_more, length-drop}
use Rattle.std.proofs.lemmas.Option.{slice_get-get_or, slice_get_within}
use Rattle.tomex_study.specs.Study.{DesignSpace}
use Rattle.tomex_survey.specs.declared.stretch.Stretch.{Stretch}
use Rattle.tomex_choices.specs.Asking.{AreFound, AreJoined, IsChain, IsFoundIn, IsJoined}
use Rattle.tomex_choices.specs.declared.found.Found.{Found}
use Rattle.tomex_choices.specs.declared.found.ListFound.{ListFound}
use Rattle.tomex_choices.proofs.AskedRows.{get-set_other, get-set_same}
use Rattle.tomex_choices.proofs.Finding.{joined}

-- what is left of a list, with a first item

pub left_within : {X : Type 0} (xs rest : List X) (k : ℕ) (x : X) → drop k xs ≡ x ∷ rest → k < length xs
left_within xs rest k x is = elim (cases_Bool (nat_lt k (length xs))) [
  | inl e ↦ grind (arith, nat_tests)
  | inr e ↦
      let past : length xs ≤ k = grind (arith, nat_tests) in
      absurd (let f : [] ≡ x ∷ rest = sym (drop_all k xs past) ∙ is in cc)
]

pub left_first : {X : Type 0} (xs rest : List X) (k : ℕ) (x : X) → drop k xs ≡ x ∷ rest
    → (slice_get xs k ≡ Some x) × (drop (k + 1) xs ≡ rest)
left_first xs rest k x is =
    let low = left_within xs rest k x is in
    let f : get_or xs k x ∷ drop (k + 1) xs ≡ x ∷ rest = sym (drop_more xs k x low) ∙ is in
    let one : get_or xs k x ≡ x = (cc) in
    let other : drop (k + 1) xs ≡ rest = (cc) in
    (slice_get-get_or xs k x low ∙ ap (λ (y : _). Some y) one, other)

pub none_left : {X : Type 0} (xs rest : List X) (k : ℕ) → drop k xs ≡ rest → length rest ≡ 0 → length xs ≤ k
none_left xs rest k is none =
    let l : length (drop k xs) ≡ length xs - k = length-drop k xs in
    let e : length (drop k xs) ≡ length rest = ap length is in
    omega (arith, l, e, none)

-- the lists before a place are joined
pub record AreJoinedTo {A : Type 0} (upto : ℕ) (a b joined : List (ListFound A)) : Type 0 where
  pub count : length joined ≡ length a
  pub each : (place : ℕ) (x y : ListFound A) → place < upto → slice_get a place ≡ Some x → slice_get b place ≡ Some y
      → (z : ListFound A) × (slice_get joined place ≡ Some z) × IsJoined x y z
  pub rest : (place : ℕ) → upto ≤ place → slice_get joined place ≡ slice_get a place

pub none_joined : {A : Type 0} (a b : List (ListFound A)) → AreJoinedTo 0 a b a
none_joined a b = record {
  count = refl;
  each = λ place x y low at in_b. absurd (omega arith);
  rest = λ place past. refl;
}

pub one_joined : {A : Type 0} (place : ℕ) (a b before after : List (ListFound A)) (x y z : ListFound A)
    → slice_get before place ≡ Some x → slice_get b place ≡ Some y → IsJoined x y z → after ≡ set before place z
    → AreJoinedTo place a b before → AreJoinedTo (place + 1) a b after
one_joined place a b before after x y z at in_b joined is so_far =
    let low : place < length before = slice_get_within before place x at in
    let long : length after ≡ length before = ap length is ∙ length-set before place z in
    record {
      count = long ∙ so_far.count;
      each = λ k v w less in_a there. elim (cases_Bool (k == place)) [
        | inl e ↦
            let here : place ≡ k = grind (arith, nat_tests) in
            let first : Some v ≡ Some x =
            sym in_a ∙ (sym (so_far.rest k (omega arith)) ∙ (ap (slice_get before) (sym here) ∙ at)) in
            let second : Some w ≡ Some y = sym there ∙ (ap (slice_get b) (sym here) ∙ in_b) in
            let one : x ≡ v = (cc) in
            let two : y ≡ w = (cc) in (
              z,
              ap (λ (xs : List (ListFound _)). slice_get xs k) is
                  ∙ (ap (slice_get (set before place z)) (sym here) ∙ get-set_same before place z low),
              subst (λ (u : ListFound _). IsJoined v u z) two (subst (λ (u : ListFound _). IsJoined u y z) one joined),
            )
        | inr e ↦
            let apart : k ≢ place = λ same. grind (arith, nat_tests) in
            let earlier : k < place = grind (arith, nat_tests) in
            let w = so_far.each k v w earlier in_a there in (
              w.0,
              ap (λ (xs : List (ListFound _)). slice_get xs k) is ∙ (get-set_other before place k z apart ∙ w.1),
              w.2,
            )
      ];
      rest = λ k past.
          let apart : k ≢ place = λ same. omega arith in
          ap (λ (xs : List (ListFound _)). slice_get xs k) is
          ∙ (get-set_other before place k z apart ∙ so_far.rest k (omega arith));
    }

pub all_joined : {A : Type 0} (upto : ℕ) (a b joined : List (ListFound A)) → length a ≤ upto
    → AreJoinedTo upto a b joined → AreJoined a b joined
all_joined upto a b joined past are = record {
  count = are.count;
  each = λ place x y at in_b.
      let low = slice_get_within a place x at in
      are.each place x y (omega (arith, low)) at in_b;
}

-- of all stretches

-- what is found so far is that of the first stretches, if these parts are left
abbrev pub IsFoundSoFar : {A : Type 0} → (parts left : List (Found A)) → List (ListFound A) → Type 0
IsFoundSoFar {A} parts left lists = (s : DesignSpace) (to : ℕ) (stretches : List Stretch) → IsChain 0 to stretches
    → AllZip (IsFoundIn s) stretches parts
    → (mid : ℕ) × (rest : List Stretch) × AreFound s 0 mid lists × IsChain mid to rest × AllZip (IsFoundIn s) rest left

pub none_so_far : {A : Type 0} (parts : List (Found A)) (lists : List (ListFound A))
    → ((s : DesignSpace) (row : ℕ) → AreFound s row row lists) → IsFoundSoFar parts parts lists
none_so_far parts lists none s to stretches chain zip = (0, stretches, none s 0, chain, zip)

pub one_so_far : {A : Type 0} (parts left : List (Found A)) (p : Found A) (before after : List (ListFound A))
    → AreJoined before p.lists.items after → IsFoundSoFar parts (p ∷ left) before → IsFoundSoFar parts left after
one_so_far parts left p before after are so_far s to stretches chain zip =
    let w = so_far s to stretches chain zip in
    next w.0 w.1 w.2 w.3 w.4
  where
    next : (mid : ℕ) (rest : List Stretch) → AreFound s 0 mid before → IsChain mid to rest
        → AllZip (IsFoundIn s) rest (p ∷ left)
        → (mid : ℕ) × (rest : List Stretch) × AreFound s 0 mid after × IsChain mid to rest
        × AllZip (IsFoundIn s) rest left
    next mid [] found chain zip = absurd zip
    next mid (z ∷ rest) found chain zip =
        let own : AreFound s mid z.end p.lists.items =
        subst (λ (n : ℕ). AreFound s n z.end p.lists.items) chain.0 zip.0.lists in
        (z.end, rest, joined s 0 mid z.end before p.lists.items after found own are, chain.1, zip.1)

pub all_so_far : {A : Type 0} (parts left : List (Found A)) (lists : List (ListFound A)) → left ≡ []
    → IsFoundSoFar parts left lists
    → (s : DesignSpace) (to : ℕ) (stretches : List Stretch) → IsChain 0 to stretches
    → AllZip (IsFoundIn s) stretches parts → AreFound s 0 to lists
all_so_far {A} parts left lists none so_far s to stretches chain zip =
    let w = so_far s to stretches chain zip in
    last w.0 w.1 w.2 w.3 (subst (AllZip (IsFoundIn {A = A} s) w.1) none w.4)
  where
    last : (mid : ℕ) (rest : List Stretch) → AreFound s 0 mid lists → IsChain mid to rest
        → AllZip (IsFoundIn {A = A} s) rest [] → AreFound s 0 to lists
    last mid [] found chain zip = subst (λ (n : ℕ). AreFound s 0 n lists) chain found
    last mid (z ∷ rest) found chain zip = absurd zip
