-- One more span: it adds the numbers of those of its steps that no earlier span with its key has.
use Rattle.std.proofs.Common.{ℕ, zero, suc, ◌+◌, ◌-◌, ◌<◌, ◌≤◌, ◌≡◌, ◌∙◌, Bool, true, false, arith, refl}
use Rattle.std.proofs.Common.{sym, ap, inl, inr}
use Rattle.std.proofs.Common.{List, [], ◌∷◌, ◌++◌, length, get_or, replicate, set, subst, take, sum, min, max}
use Rattle.std.specs.Prelude.{All, ◌&&◌, ◌||◌, if◌then◌else◌, nat_le, nat_lt}
use Rattle.std.specs.List.{list_any}
use Rattle.std.specs.List.Sorted.{IsNonDecreasingBy}
use Rattle.std.proofs.lemmas.Bool.{and_from, and_parts, cases_Bool, cases_eq, cases_lt}
use Rattle.std.proofs.lemmas.Bool.{eq-eqb, le-leb, leb-true, lt-ltb, ltb-true, ne_eqb}
use Rattle.std.proofs.lemmas.Bool.{or_cases, or_left, or_right, false_from_ne_true}
use Rattle.std.proofs.lemmas.List.{get_or_append_left, get_or_default, get_or_push, get_or_read, get_or-replicate}
use Rattle.std.proofs.lemmas.List.{get_or-set_other}
use Rattle.std.proofs.lemmas.List.{get_or-set_same, get_or-take, length_push, length-take, take_more, take-take}
use Rattle.std.proofs.lemmas.List.Elements.{All-weaker}
use Rattle.std.proofs.lemmas.List.Folds.{list_any-append}
use Rattle.std.proofs.lemmas.List.Sums.{sum_by_more, sum_by-take-le}
use Rattle.tomex_loop_sums.specs.declared.spans.Span.{Span}
use Rattle.tomex_stretches.specs.Cycles.{sum_below}
use Rattle.tomex_stretches.proofs.Keyed.{below_none, below_plus}
use Rattle.tomex_loop_sums.specs.Spans.{is_in, sum_in}

-- all of a list, and one more

All-front : (P : Span → Type 0) (spans : List Span) (x : Span) → All P (spans ++ (x ∷ [])) → All P spans
All-front P spans x all = λ i d l.
    subst P (get_or_append_left spans (x ∷ []) d i l) (all i d (omega (arith, l, length_push spans x)))

All-last : (P : Span → Type 0) (spans : List Span) (x : Span) → All P (spans ++ (x ∷ [])) → P x
All-last P spans x all =
    subst P (get_or_push spans x x (length spans) refl) (all (length spans) x (omega (arith, length_push spans x)))

-- sums

below_same : (m : ℕ) (f g : ℕ → ℕ) → ((k : ℕ) → k < m → f k ≡ g k) → sum_below m f ≡ sum_below m g
below_same zero f g same = refl
below_same (suc m) f g same =
    let rest = below_same m f g (λ k l. same k (omega (arith, l))) in
    let here = same m (omega arith) in
    omega (arith, rest, here)

between_yes : (c b k : ℕ) → c ≤ k → k < b → (nat_le c k && nat_lt k b) ≡ true
between_yes c b k low high = and_from (nat_le c k) (nat_lt k b) (le-leb c k low) (lt-ltb k b high)

between_no : (c b k : ℕ) → (c ≤ k → k < b → ⊥) → (nat_le c k && nat_lt k b) ≡ false
between_no c b k not_both = false_from_ne_true (nat_le c k && nat_lt k b) (λ is.
    let parts = and_parts (nat_le c k) (nat_lt k b) is in
    not_both (leb-true c k parts.0) (ltb-true k b parts.1))

-- the numbers from one on, and before another
abbrev between : List ℕ → ℕ → ℕ → ℕ → ℕ
between numbers c b k = if nat_le c k && nat_lt k b then get_or numbers k 0 else 0

abbrev first : List ℕ → ℕ → ℕ
first numbers k = sum (take k numbers)

same_first : (numbers : List ℕ) (j k : ℕ) → j ≡ k → first numbers j ≡ first numbers k
same_first numbers j k e = ap (λ (i : ℕ). first numbers i) e

below_between : (numbers : List ℕ) (c b m : ℕ) → c ≤ b → m ≤ length numbers
    → sum_below m (between numbers c b) + first numbers (min m c) ≡ first numbers (min m b)
below_between numbers c b zero order l =
    let one = same_first numbers (min 0 c) 0 (omega arith) in
    let two = same_first numbers (min 0 b) 0 (omega arith) in
    omega (arith, one, two)
below_between numbers c b (suc m) order l =
    let rest = below_between numbers c b m order (omega (arith, l)) in
    let more = sum_by_more (λ (x : ℕ). x) numbers m 0 (omega (arith, l)) in
    elim (cases_lt m c) [
      | inl early ↦
          let out = between_no c b m (λ low high. absurd (omega (arith, low, early))) in
          let one = same_first numbers (min m c) m (omega (arith, early)) in
          let two = same_first numbers (min (suc m) c) (m + 1) (omega (arith, early)) in
          let three = same_first numbers (min m b) m (omega (arith, early, order)) in
          let four = same_first numbers (min (suc m) b) (m + 1) (omega (arith, early, order)) in
          rw out (omega (arith, rest, one, two, three, four))
      | inr late ↦
          let one = same_first numbers (min m c) c (omega (arith, late)) in
          let two = same_first numbers (min (suc m) c) c (omega (arith, late)) in
          elim (cases_lt m b) [
            | inl inside ↦
                let is = between_yes c b m late inside in
                let three = same_first numbers (min m b) m (omega (arith, inside)) in
                let four = same_first numbers (min (suc m) b) (m + 1) (omega (arith, inside)) in
                rw is (omega (arith, rest, more, one, two, three, four))
            | inr past ↦
                let out = between_no c b m (λ low high. absurd (omega (arith, high, past))) in
                let three = same_first numbers (min m b) b (omega (arith, past)) in
                let four = same_first numbers (min (suc m) b) b (omega (arith, past)) in
                rw out (omega (arith, rest, one, two, three, four))
          ]
    ]

gain : (numbers : List ℕ) (c b : ℕ) → c ≤ b → b ≤ length numbers
    → sum_below (length numbers) (between numbers c b) ≡ first numbers b - first numbers c
gain numbers c b order l =
    let all = below_between numbers c b (length numbers) order (omega arith) in
    let one = same_first numbers (min (length numbers) c) c (omega (arith, order, l)) in
    let two = same_first numbers (min (length numbers) b) b (omega (arith, l)) in
    omega (arith, all, one, two)

pub first_order : (numbers : List ℕ) (c b : ℕ) → c ≤ b → sum (take c numbers) ≤ sum (take b numbers)
first_order numbers c b order =
    let part = sum_by-take-le (λ (x : ℕ). x) (take b numbers) c in
    let same : sum (take c (take b numbers)) ≡ sum (take c numbers) =
    ap (λ (xs : List ℕ). sum xs) (take-take c b numbers order) in
    omega (arith, part, same)

below_first : (numbers : List ℕ) (p : ℕ → Bool) (m : ℕ) → m ≤ length numbers
    → sum_below m (λ k. if p k then get_or numbers k 0 else 0) ≤ first numbers m
below_first numbers p zero l = omega arith
below_first numbers p (suc m) l =
    let rest = below_first numbers p m (omega (arith, l)) in
    let more = sum_by_more (λ (x : ℕ). x) numbers m 0 (omega (arith, l)) in
    let at = same_first numbers (suc m) (m + 1) (omega arith) in
    elim (cases_Bool (p m)) [
      | inl is ↦ rw is (omega (arith, rest, more, at))
      | inr is ↦ rw is (omega (arith, rest, more, at))
    ]

pub sum_in_few : (n : ℕ) (spans : List Span) (numbers : List ℕ) → sum_in n spans numbers ≤ sum numbers
sum_in_few n spans numbers =
    let part = below_first numbers (λ k. list_any (is_in n k) spans) (length numbers) (omega arith) in
    let all = sum_by-take-le (λ (x : ℕ). x) numbers (length numbers) in
    omega (arith, part, all)

-- one more span

any_push : (p : Span → Bool) (spans : List Span) (x : Span) → list_any p (spans ++ (x ∷ [])) ≡ (list_any p spans || p x)
any_push p spans x = list_any-append p spans (x ∷ [])
    ∙ ap (λ (b : Bool). list_any p spans || b) (elim (p x) as (λ b. (b || false) ≡ b) [ true ↦ refl | false ↦ refl ])

in_here : (n k : ℕ) (x : Span) → x.key ≡ n → is_in n k x ≡ (nat_le x.from k && nat_lt k x.to)
in_here n k x same = rw (eq-eqb x.key n same) refl

in_there : (n k : ℕ) (x : Span) → (x.key ≡ n → ⊥) → is_in n k x ≡ false
in_there n k x other = rw (ne_eqb x.key n other) refl

-- A step from the last span's first on is in a span with the key exactly if it is before the greatest end of those.
pub record Covers (n : ℕ) (spans : List Span) (end : ℕ) : Type 0 where
  pub inside : (k : ℕ) → list_any (is_in n k) spans ≡ true → k < end
  pub all : (k : ℕ) → All (λ x. x.from ≤ k) spans → k < end → list_any (is_in n k) spans ≡ true

pub record IsSummed (n : ℕ) (spans : List Span) (numbers : List ℕ) (s end : ℕ) : Type 0 where
  pub is : s ≡ sum_in n spans numbers
  pub covers : Covers n spans end

covers_here : (n : ℕ) (spans : List Span) (x : Span) (end : ℕ) → x.key ≡ n → Covers n spans end
    → Covers n (spans ++ (x ∷ [])) (max x.to end)
covers_here n spans x end same was = record {
  inside = λ k is.
      elim (or_cases (list_any (is_in n k) spans) (is_in n k x) (sym (any_push (is_in n k) spans x) ∙ is)) [
        | inl before ↦ let l = was.inside k before in omega (arith, l)
        | inr here ↦
            let parts = and_parts (nat_le x.from k) (nat_lt k x.to) (sym (in_here n k x same) ∙ here) in
            let l = ltb-true k x.to parts.1 in omega (arith, l)
      ];
  all = λ k froms l. any_push (is_in n k) spans x ∙ elim (cases_lt k end) [
    | inl before ↦ or_left (list_any (is_in n k) spans) (is_in n k x)
        (was.all k (All-front (λ (y : Span). y.from ≤ k) spans x froms) before)
    | inr after ↦ or_right (list_any (is_in n k) spans) (is_in n k x)
        (in_here n k x same ∙ between_yes x.from x.to k (All-last (λ (y : Span). y.from ≤ k) spans x froms)
        (omega (arith, l, after)))
  ];
}

covers_there : (n : ℕ) (spans : List Span) (x : Span) (end : ℕ) → (x.key ≡ n → ⊥) → Covers n spans end
    → Covers n (spans ++ (x ∷ [])) end
covers_there n spans x end other was = record {
  inside = λ k is.
      elim (or_cases (list_any (is_in n k) spans) (is_in n k x) (sym (any_push (is_in n k) spans x) ∙ is)) [
        | inl before ↦ was.inside k before
        | inr here ↦ let clash : true ≡ false = sym here ∙ in_there n k x other in absurd (cc)
      ];
  all = λ k froms l. any_push (is_in n k) spans x ∙ or_left (list_any (is_in n k) spans) (is_in n k x)
      (was.all k (All-front (λ (y : Span). y.from ≤ k) spans x froms) l);
}

-- what a step adds: it is new if it is past the end so far
new_step : (n : ℕ) (spans : List Span) (x : Span) (end k v : ℕ) → x.key ≡ n → All (λ y. y.from ≤ x.from) spans
    → Covers n spans end → (if list_any (is_in n k) (spans ++ (x ∷ [])) then v else 0)
    ≡ (if list_any (is_in n k) spans then v else 0)
    + (if nat_le (min (max x.from end) x.to) k && nat_lt k x.to then v else 0)
new_step n spans x end k v same order was = elim (cases_Bool (list_any (is_in n k) spans)) [
  | inl had ↦
      let l = was.inside k had in
      let out = between_no (min (max x.from end) x.to) x.to k (λ low high. absurd (omega (arith, low, high, l))) in
      rw (any_push, had, out) (omega arith)
  | inr had ↦ elim (cases_Bool (nat_le x.from k && nat_lt k x.to)) [
    | inl here ↦
        let parts = and_parts (nat_le x.from k) (nat_lt k x.to) here in
        let low = leb-true x.from k parts.0 in
        let high = ltb-true k x.to parts.1 in
        let past : end ≤ k = elim (cases_lt k end) [
          | inl before ↦
              let clash : true ≡ false = sym (was.all k (All-weaker (λ (y : Span). y.from ≤ x.from)
              (λ (y : Span). y.from ≤ k) (λ y l. omega (arith, l, low)) spans order) before) ∙ had in
              absurd (cc)
          | inr after ↦ after
        ] in
        let is = between_yes (min (max x.from end) x.to) x.to k (omega (arith, low, past)) high in
        rw (any_push, had, in_here n k x same, here, is) (omega arith)
    | inr there ↦
        let out = between_no (min (max x.from end) x.to) x.to k (λ low high.
        let clash : true ≡ false = sym (between_yes x.from x.to k (omega (arith, low, high)) high) ∙ there in
        absurd (cc)) in
        rw (any_push, had, in_here n k x same, there, out) (omega arith)
  ]
]

pub summed_here : (n : ℕ) (spans : List Span) (numbers : List ℕ) (x : Span) (s end : ℕ) → x.key ≡ n
    → x.from ≤ x.to → x.to ≤ length numbers → All (λ y. y.from ≤ x.from) spans → IsSummed n spans numbers s end
    → IsSummed n (spans ++ (x ∷ [])) numbers
    (s + (sum (take x.to numbers) - sum (take (min (max x.from end) x.to) numbers))) (max x.to end)
summed_here n spans numbers x s end same is_span within order was =
    let start : ℕ = min (max x.from end) x.to in
    let each = below_same (length numbers)
    (λ k. if list_any (is_in n k) (spans ++ (x ∷ [])) then get_or numbers k 0 else 0)
    (λ k. (if list_any (is_in n k) spans then get_or numbers k 0 else 0)
    + between numbers (min (max x.from end) x.to) x.to k)
    (λ k l. new_step n spans x end k (get_or numbers k 0) same order was.covers) in
    let plus = below_plus (length numbers) (λ k. if list_any (is_in n k) spans then get_or numbers k 0 else 0)
    (between numbers (min (max x.from end) x.to) x.to) in
    let more = gain numbers (min (max x.from end) x.to) x.to (omega arith) within in
    let had = was.is in
    record {
      is = omega (arith, each, plus, more, had);
      covers = covers_here n spans x end same was.covers;
    }

pub summed_there : (n : ℕ) (spans : List Span) (numbers : List ℕ) (x : Span) (s end : ℕ) → (x.key ≡ n → ⊥)
    → IsSummed n spans numbers s end → IsSummed n (spans ++ (x ∷ [])) numbers s end
summed_there n spans numbers x s end other was =
    let each = below_same (length numbers)
    (λ k. if list_any (is_in n k) (spans ++ (x ∷ [])) then get_or numbers k 0 else 0)
    (λ k. if list_any (is_in n k) spans then get_or numbers k 0 else 0)
    (λ k l. ap (λ (b : Bool). if b then get_or numbers k 0 else 0)
    (any_push (is_in n k) spans x
    ∙ ap (λ (b : Bool). list_any (is_in n k) spans || b) (in_there n k x other)
    ∙ (elim (list_any (is_in n k) spans) as (λ b. (b || false) ≡ b) [ true ↦ refl | false ↦ refl ]))) in
    let had = was.is in
    record {
      is = omega (arith, each, had);
      covers = covers_there n spans x end other was.covers;
    }

pub summed_none : (n count : ℕ) (numbers sums ends : List ℕ) → n < count → sums ≡ replicate count 0
    → ends ≡ replicate count 0 → IsSummed n [] numbers (get_or sums n 0) (get_or ends n 0)
summed_none n count numbers sums ends l no_sums no_ends =
    rw (no_sums, no_ends, get_or-replicate {A = ℕ} count n 0 0 l) (record {
      is = sym (below_none (length numbers));
      covers = record {
        inside = λ k is. absurd (cc);
        all = λ k froms l. absurd (omega (arith, l));
      };
    })

pub read_first : (numbers firsts : List ℕ) (k v : ℕ) → length firsts ≡ length numbers + 1
    → ((j : ℕ) → j ≤ length numbers → get_or firsts j 0 ≡ sum (take j numbers)) → k ≤ length numbers
    → v ≡ get_or firsts k v → v ≡ sum (take k numbers)
read_first numbers firsts k v count each l is = get_or_read firsts k v (omega (arith, count, l)) is 0 ∙ each k l

-- the spans before one begin no later
no_later : (spans : List Span) (i : ℕ) (d : Span) → IsNonDecreasingBy (λ x. x.from) spans → i < length spans
    → All (λ y. y.from ≤ (get_or spans i d).from) (take i spans)
no_later spans i d order l = λ j e m.
    let small : j < i = omega (arith, m, length-take i spans) in
    subst (λ (y : Span). y.from ≤ (get_or spans i d).from)
    (get_or_default spans j d e (omega (arith, small, l)) ∙ sym (get_or-take i spans j e small))
    (order j i d (omega (arith, small)) l)

-- a turn of the loop, at the span x
module _ (spans : List Span) (numbers sums ends : List ℕ) (i : ℕ) (d : Span) (was end to start from up new : ℕ)
    (order : IsNonDecreasingBy (λ x. x.from) spans) (are : All (λ x. x.from ≤ x.to) spans)
    (within : All (λ x. x.to ≤ length numbers) spans) (l : i < length spans)
    (small : (get_or spans i d).key < length sums) (pairs : length sums ≡ length ends)
    (is_was : was ≡ get_or sums (get_or spans i d).key was) (is_end : end ≡ get_or ends (get_or spans i d).key end)
    (is_to : to ≡ sum (take (get_or spans i d).to numbers)) (is_start : start ≡ sum (take from numbers))
    (is_from : from ≡ min up (get_or spans i d).to) (is_up : up ≡ max (get_or spans i d).from end)
    (is_new : new ≡ max (get_or spans i d).to end) where
  pub summed_more : (n : ℕ) → IsSummed n (take i spans) numbers (get_or sums n 0) (get_or ends n 0)
      → IsSummed n (take (i + 1) spans) numbers (get_or (set sums (get_or spans i d).key (was + (to - start))) n 0)
      (get_or (set ends (get_or spans i d).key new) n 0)
  summed_more n so = elim (cases_eq (get_or spans i d).key n) [
    | inl same ↦
        let sum_is : get_or sums n 0 ≡ was = ap (λ (j : ℕ). get_or sums j 0) (sym same)
        ∙ sym (get_or_read sums (get_or spans i d).key was small is_was 0) in
        let end_is : get_or ends n 0 ≡ end = ap (λ (j : ℕ). get_or ends j 0) (sym same)
        ∙ sym (get_or_read ends (get_or spans i d).key end (omega (arith, small, pairs)) is_end 0) in
        let new_sum : get_or (set sums (get_or spans i d).key (was + (to - start))) n 0 ≡ was + (to - start) =
        ap (λ (j : ℕ). get_or (set sums (get_or spans i d).key (was + (to - start))) j 0) (sym same)
        ∙ get_or-set_same sums (get_or spans i d).key (was + (to - start)) 0 small in
        let new_end : get_or (set ends (get_or spans i d).key new) n 0 ≡ new =
        ap (λ (j : ℕ). get_or (set ends (get_or spans i d).key new) j 0) (sym same)
        ∙ get_or-set_same ends (get_or spans i d).key new 0 (omega (arith, small, pairs)) in
        rw (new_sum, new_end, take_more spans i d l, is_to, is_start, is_from, is_up, is_new)
        (summed_here n (take i spans) numbers (get_or spans i d) was end same (are i d l) (within i d l)
        (no_later spans i d order l) (rw (sum_is, end_is) at so))
    | inr other ↦
        let kept_sum = get_or-set_other sums (get_or spans i d).key n (was + (to - start)) 0
        (λ (z : n ≡ (get_or spans i d).key). other (sym z)) in
        let kept_end = get_or-set_other ends (get_or spans i d).key n new 0
        (λ (z : n ≡ (get_or spans i d).key). other (sym z)) in
        rw (kept_sum, kept_end, take_more spans i d l)
        (summed_there n (take i spans) numbers (get_or spans i d) (get_or sums n 0) (get_or ends n 0) other so)
  ]

  -- the sum fits
  pub sum_few : IsSummed (get_or spans i d).key (take i spans) numbers (get_or sums (get_or spans i d).key 0)
      (get_or ends (get_or spans i d).key 0) → was + (to - start) ≤ sum numbers
  sum_few so =
      let after = summed_more (get_or spans i d).key so in
      let is = after.is in
      let now = get_or-set_same sums (get_or spans i d).key (was + (to - start)) 0 small in
      let few = sum_in_few (get_or spans i d).key (take (i + 1) spans) numbers in
      omega (arith, is, now, few)
