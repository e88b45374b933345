-- Turns of the search for the oldest, and what is picked of a listing in issue order.
use Rattle.std.proofs.Common.{ℕ, zero, suc, ◌+◌, Bool, true, false, ◌≡◌, ◌≤◌, ◌<◌, ◌∙◌, ◌⊎◌, arith, inl, inr, ap, refl}
use Rattle.std.proofs.Common.{sym, List, [], ◌∷◌, take, slice_index, length}
use Rattle.std.specs.Prelude.{◌==◌, ◌≢◌, min, count_by}
use Rattle.std.proofs.lemmas.Bool.{cases_Bool, both_ways, eqb-true, eqb-false}
use Rattle.std.proofs.lemmas.List.Sums.{sum_by-cons}
use Rattle.tomex_bus.specs.Sets.{has, size_of, IsWith, IsWithout}
use Rattle.tomex_bus.proofs.Bits.{none_in}
use Rattle.tomex_bus.proofs.Counting.{count_single, size_none, size_with, size_without}
use Rattle.tomex_bus.specs.Picks.{IsInIssueOrder, IsPicked, Rises, is_listed}
use Rattle.tomex_bus.proofs.Listings.{count_all, count_listed, in_head, in_tail, none_counted, some_counted}

-- no visited member is less by a measure than the best one; one more is visited
pub best_left : (set rest left x best now : ℕ) (issue_numbers : List ℕ)
    → ((i : ℕ) → i < 128 → has set i ≡ true → (has rest i ≡ true)
    ⊎ (slice_index issue_numbers best ≤ slice_index issue_numbers i)) → IsWithout rest x left
    → slice_index issue_numbers now ≤ slice_index issue_numbers best
    → slice_index issue_numbers now ≤ slice_index issue_numbers x
    → (i : ℕ) → i < 128 → has set i ≡ true → (has left i ≡ true)
    ⊎ (slice_index issue_numbers now ≤ slice_index issue_numbers i)
best_left set rest left x best now issue_numbers looked without less here i l member = elim (cases_Bool (x == i)) [
  | inl k ↦ let same : x ≡ i = eqb-true x i k in inr (rw same at here)
  | inr k ↦ elim (looked i l member) [
    | inl e ↦ inl (without.others i l (λ z. eqb-false x i k (sym z)) ∙ e)
    | inr least ↦ inr (omega arith)
  ]
]

-- after a number of turns: the ready ones that are left are younger than those that are picked
pub record AreMade (ready : ℕ) (issue_numbers : List ℕ) (turn rest picked : ℕ) : Type 0 where
  pub rest_in : (x : ℕ) → x < 128 → has rest x ≡ true → has ready x ≡ true
  pub picked_in : (x : ℕ) → x < 128 → has picked x ≡ true → has ready x ≡ true
  pub apart : (x : ℕ) → x < 128 → has rest x ≡ true → has picked x ≡ false
  pub left : (x : ℕ) → x < 128 → has ready x ≡ true → has picked x ≡ false → has rest x ≡ true
  pub oldest : (x y : ℕ) → x < 128 → y < 128 → has picked x ≡ true → has rest y ≡ true
      → slice_index issue_numbers x ≤ slice_index issue_numbers y
  pub taken : size_of picked ≡ turn
  pub all : size_of picked + size_of rest ≡ size_of ready

pub none_made : (ready : ℕ) (issue_numbers : List ℕ) → AreMade ready issue_numbers 0 ready 0
none_made ready issue_numbers =
    let none : size_of 0 ≡ 0 = size_none 0 refl in record {
      rest_in = λ x l e. e;
      picked_in = λ x l e. absurd (both_ways (has 0 x) (none_in x) e);
      apart = λ x l e. none_in x;
      left = λ x l e f. e;
      oldest = λ x y l m e f. absurd (both_ways (has 0 x) (none_in x) e);
      taken = none;
      all = omega arith;
    }

same_without : (rest b new x : ℕ) → x < 128 → IsWithout rest b new → has new x ≡ true → has rest x ≡ true
same_without rest b new x l without e = elim (cases_Bool (b == x)) [
  | inl k ↦ let f : b ≡ x = eqb-true b x k in absurd (both_ways (has new b) without.same (rw f e))
  | inr k ↦ sym (without.others x l (λ z. eqb-false b x k (sym z))) ∙ e
]

pub one_more : (ready : ℕ) (issue_numbers : List ℕ) (turn rest picked b left with : ℕ)
    → AreMade ready issue_numbers turn rest picked → b < 128 → has rest b ≡ true
    → ((i : ℕ) → i < 128 → has rest i ≡ true → slice_index issue_numbers b ≤ slice_index issue_numbers i)
    → IsWithout rest b left → IsWith picked b with
    → AreMade ready issue_numbers (turn + 1) left with
one_more ready issue_numbers turn rest picked b left with made small member least without more =
    let off : has picked b ≡ false = made.apart b small member in
    let picked_more : size_of with ≡ size_of picked + 1 = size_with picked b with small off more in
    let rest_less : size_of rest ≡ size_of left + 1 = size_without rest b left small member without in
    let taken : size_of picked ≡ turn = made.taken in
    let all : size_of picked + size_of rest ≡ size_of ready = made.all in
    record {
      rest_in = λ x l e. made.rest_in x l (same_without rest b left x l without e);
      picked_in = λ x l e. elim (cases_Bool (b == x)) [
        | inl k ↦ ap (has ready) (sym (eqb-true b x k)) ∙ made.rest_in b small member
        | inr k ↦ made.picked_in x l (before x k e)
      ];
      apart = λ x l e. elim (cases_Bool (b == x)) [
        | inl k ↦ absurd (both_ways (has left b) without.same (ap (has left) (eqb-true b x k) ∙ e))
        | inr k ↦ more.others x (λ z. eqb-false b x k (sym z)) ∙ made.apart x l (same_without rest b left x l without e)
      ];
      left = λ x l e f. elim (cases_Bool (b == x)) [
        | inl k ↦ absurd (both_ways (has with b) (ap (has with) (eqb-true b x k) ∙ f) more.same)
        | inr k ↦
            let other : x ≢ b = λ z. eqb-false b x k (sym z) in
            without.others x l other ∙ made.left x l e (sym (more.others x other) ∙ f)
      ];
      oldest = λ x y l m e f. elim (cases_Bool (b == x)) [
        | inl k ↦ rw (← eqb-true b x k) (least y m (same_without rest b left y m without f))
        | inr k ↦ made.oldest x y l m (before x k e) (same_without rest b left y m without f)
      ];
      taken = omega arith;
      all = omega arith;
    }
  where
    before : (x : ℕ) → (b == x) ≡ false → has with x ≡ true → has picked x ≡ true
    before x k e = sym (more.others x (λ z. eqb-false b x k (sym z))) ∙ e

-- all turns are made, or none is left
pub picked_by : (ready : ℕ) (issue_numbers : List ℕ) (turn n rest picked : ℕ)
    → AreMade ready issue_numbers turn rest picked → size_of picked ≡ min n (size_of ready)
    → IsPicked ready issue_numbers n picked
picked_by ready issue_numbers turn n rest picked made count = record {
  inside = made.picked_in;
  oldest = λ x y l m e f g. made.oldest x y l m e (made.left y m f g);
  count = count;
}

pub all_taken : (ready : ℕ) (issue_numbers : List ℕ) (turn n rest picked : ℕ)
    → AreMade ready issue_numbers turn rest picked → rest ≡ 0 → turn ≤ n → IsPicked ready issue_numbers n picked
all_taken ready issue_numbers turn n rest picked made empty l =
    let none : size_of rest ≡ 0 = size_none rest empty in
    let taken : size_of picked ≡ turn = made.taken in
    let all : size_of picked + size_of rest ≡ size_of ready = made.all in
    picked_by ready issue_numbers turn n rest picked made (omega arith)

pub n_taken : (ready : ℕ) (issue_numbers : List ℕ) (n rest picked : ℕ) → AreMade ready issue_numbers n rest picked
    → IsPicked ready issue_numbers n picked
n_taken ready issue_numbers n rest picked made =
    let taken : size_of picked ≡ n = made.taken in
    let all : size_of picked + size_of rest ≡ size_of ready = made.all in
    picked_by ready issue_numbers n n rest picked made (omega arith)

-- nothing is picked of an empty set
pub none_picked : (set n : ℕ) (issue_numbers : List ℕ) → set ≡ 0 → IsPicked set issue_numbers n 0
none_picked set n issue_numbers e =
    let none : size_of 0 ≡ 0 = size_none 0 refl in
    let empty : size_of set ≡ 0 = size_none set e in record {
      inside = λ x l h. absurd (both_ways (has 0 x) (none_in x) h);
      oldest = λ x y l m h k left. absurd (both_ways (has 0 x) (none_in x) h);
      count = omega arith;
    }

-- the oldest of a single member is that member
pub single_picked : (set n : ℕ) (issue_numbers : List ℕ) → 0 < n
    → ((a b : ℕ) → a < 128 → b < 128 → has set a ≡ true → has set b ≡ true → a ≡ b) → IsPicked set issue_numbers n set
single_picked set n issue_numbers some single =
    let few : size_of set ≤ 1 = count_single (has set) 128 single in record {
      inside = λ x l e. e;
      oldest = λ x y l m e f left. absurd (both_ways (has set y) left f);
      count = omega arith;
    }

-- some of a set that isn't empty are picked by the time that none is left
pub taken_some : (ready turn rest picked : ℕ) → (turn ≡ 0 → rest ≡ ready) → (0 < turn → picked ≢ 0) → rest ≡ 0
    → ready ≢ 0 → picked ≢ 0
taken_some ready zero rest picked first some none apart = absurd (apart (sym (first refl) ∙ none))
taken_some ready (suc turn) rest picked first some none apart = some (omega arith)

-- The first n of a listing in issue order are picked.

take_inside : (n x : ℕ) (xs : List ℕ) → is_listed (take n xs) x ≡ true → is_listed xs x ≡ true
take_inside zero x xs e = absurd (cc)
take_inside (suc n) x [] e = absurd (cc)
take_inside (suc n) x (y ∷ ys) e = elim (cases_Bool (y == x)) [
  | inl k ↦ rw k refl
  | inr k ↦ in_tail y x ys (take_inside n x ys (rw k at e))
]

first_taken : (p : ℕ → Bool) (issue_numbers : List ℕ) (n : ℕ) (xs : List ℕ) → Rises issue_numbers xs
    → ((x y : ℕ) → is_listed xs x ≡ true → is_listed xs y ≡ true → p x ≡ true → p y ≡ false
    → slice_index issue_numbers x ≤ slice_index issue_numbers y)
    → count_by p xs ≡ min n (length xs) → (x : ℕ) → is_listed xs x ≡ true → p x ≡ is_listed (take n xs) x
first_taken p issue_numbers n [] rises oldest count x h = absurd (cc)
first_taken p issue_numbers zero (y ∷ ys) rises oldest count x h = none_counted p (y ∷ ys) x (count ∙ omega arith) h
first_taken p issue_numbers (suc n) (y ∷ ys) rises oldest count x h = elim (cases_Bool (p y)) [
  | inl on ↦
      let more : count_by p (y ∷ ys) ≡ 1 + count_by p ys = rw (sum_by-cons, on) refl in
      let rest : count_by p ys ≡ min n (length ys) = omega arith in
      elim (cases_Bool (y == x)) [
        | inl k ↦ ap p (sym (eqb-true y x k)) ∙ (on ∙ sym (rw k refl))
        | inr k ↦
            first_taken p issue_numbers n ys rises.1 (λ a b i j. oldest a b (in_tail y a ys i) (in_tail y b ys j)) rest
            x (rw k at h)
            ∙ sym (rw k refl)
      ]
  | inr off ↦
      let same : count_by p (y ∷ ys) ≡ count_by p ys = rw (sum_by-cons, off) (omega arith) in
      let some = some_counted p ys (omega arith) in
      let older : slice_index issue_numbers some.0 ≤ slice_index issue_numbers y =
      oldest some.0 y (in_tail y some.0 ys some.1) (in_head y ys) some.2 off in
      let younger : slice_index issue_numbers y < slice_index issue_numbers some.0 = rises.0 some.0 some.1 in
      absurd (omega arith)
]

pub first_picked : (set n picked : ℕ) (issue_numbers xs : List ℕ) → IsPicked set issue_numbers n picked
    → IsInIssueOrder set issue_numbers xs → (x : ℕ) → x < 128 → has picked x ≡ is_listed (take n xs) x
first_picked set n picked issue_numbers xs pick by x l =
    let size : size_of set ≡ length xs =
    count_listed (has set) issue_numbers xs by.rises by.low (λ y m e. sym (by.members y m) ∙ e)
    ∙ count_all (has set) xs (λ y h. by.members y (by.low y h) ∙ h) in
    let some : size_of picked ≡ count_by (has picked) xs =
    count_listed (has picked) issue_numbers xs by.rises by.low (λ y m e. sym (by.members y m) ∙ pick.inside y m e)
    in
    let count : size_of picked ≡ min n (size_of set) = pick.count in
    elim (cases_Bool (is_listed xs x)) [
      | inl h ↦
          first_taken (has picked) issue_numbers n xs by.rises
          (λ a b i j e f. pick.oldest a b (by.low a i) (by.low b j) e (by.members b (by.low b j) ∙ j) f)
          (sym some ∙ (count ∙ ap (min n) size)) x h
      | inr h ↦ outside h
    ]
  where
    outside : is_listed xs x ≡ false → has picked x ≡ is_listed (take n xs) x
    outside h = elim (cases_Bool (has picked x)) [
      | inl e ↦ absurd (both_ways (is_listed xs x) h (sym (by.members x l) ∙ pick.inside x l e))
      | inr e ↦ e ∙ sym (elim (cases_Bool (is_listed (take n xs) x)) [
        | inl k ↦ absurd (both_ways (is_listed xs x) h (take_inside n x xs k))
        | inr k ↦ k
      ])
    ]
