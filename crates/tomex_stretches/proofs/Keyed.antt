-- Sums by a key grow by one step at a time, and don't depend on the order of steps.
use Rattle.std.proofs.Common.{ℕ, ◌+◌, ◌≤◌, ◌≡◌, ◌∙◌, ◌<◌, zero, suc, Bool, true, false, arith, refl, ap, inl, inr}
use Rattle.std.proofs.Common.{List, [], ◌∷◌, ◌++◌, Option, Some, None, length, reverse, take, sum, get_or}
use Rattle.std.specs.Prelude.{if◌then◌else◌, IfSome, MatchOption, is_none, slice_index}
use Rattle.std.proofs.lemmas.Bool.{cases_Bool, cases_order, eq-eqb, ne_eqb}
use Rattle.std.proofs.lemmas.List.{length-reverse, length-take, take_more}
use Rattle.std.proofs.lemmas.List.Sums.{sum_by-cons, sum_by-take-le}
use Rattle.tomex_stretches.specs.Cycles.{is_key, sum_below, sum_where}
use Rattle.tomex_stretches.specs.Laws.{KeysAddUp, OrderDoesntMatter}
use Rattle.tomex_stretches.proofs.Walking.{rev_cons}

pub where_push : (p : Option ℕ → Bool) (keys : List (Option ℕ)) (numbers : List ℕ) (key : Option ℕ) (n : ℕ)
    → length keys ≡ length numbers
    → sum_where p (keys ++ (key ∷ [])) (numbers ++ (n ∷ [])) ≡ sum_where p keys numbers + (if p key then n else 0)
where_push p [] [] key n e = omega arith
where_push p [] (m ∷ numbers) key n e = absurd (omega arith)
where_push p (k ∷ keys) [] key n e = absurd (omega arith)
where_push p (k ∷ keys) (m ∷ numbers) key n e =
    let rest = where_push p keys numbers key n (omega arith) in omega (arith, rest)

pub where_more : (p : Option ℕ → Bool) (keys : List (Option ℕ)) (numbers : List ℕ) (i : ℕ) (d : Option ℕ)
    → length keys ≡ length numbers → i < length keys
    → sum_where p (take (i + 1) keys) (take (i + 1) numbers)
    ≡ sum_where p (take i keys) (take i numbers) + (if p (get_or keys i d) then get_or numbers i 0 else 0)
where_more p keys numbers i d e l =
    rw (take_more keys i d l, take_more numbers i 0 (omega arith))
    (where_push p (take i keys) (take i numbers) (get_or keys i d) (get_or numbers i 0)
    (omega (arith, length-take i keys, length-take i numbers, e)))

pub where_reverse : (p : Option ℕ → Bool) (keys : List (Option ℕ)) (numbers : List ℕ)
    → length keys ≡ length numbers → sum_where p (reverse keys) (reverse numbers) ≡ sum_where p keys numbers
where_reverse p [] [] e = refl
where_reverse p [] (n ∷ numbers) e = absurd (omega arith)
where_reverse p (k ∷ keys) [] e = absurd (omega arith)
where_reverse p (k ∷ keys) (n ∷ numbers) e =
    let rest = where_reverse p keys numbers (omega arith) in
    let push = where_push p (reverse keys) (reverse numbers) k n
    (omega (arith, length-reverse keys, length-reverse numbers, e)) in
    ap (λ (xs : List (Option ℕ)). sum_where p xs (reverse (n ∷ numbers))) (rev_cons k keys)
    ∙ ap (λ (ys : List ℕ). sum_where p (reverse keys ++ (k ∷ [])) ys) (rev_cons n numbers)
    ∙ omega (arith, rest, push)

pub where_le : (p : Option ℕ → Bool) (keys : List (Option ℕ)) (numbers : List ℕ)
    → sum_where p keys numbers ≤ sum numbers
where_le p [] numbers = omega arith
where_le p (k ∷ keys) [] = omega arith
where_le p (k ∷ keys) (n ∷ numbers) =
    let rest = where_le p keys numbers in
    elim (cases_Bool (p k)) [
      | inl e ↦ rw (e, sum_by-cons (λ (m : ℕ). m)) (omega (arith, rest))
      | inr e ↦ rw (e, sum_by-cons (λ (m : ℕ). m)) (omega (arith, rest))
    ]

-- a number fits into the sum that has it
pub where_fits : (p : Option ℕ → Bool) (keys : List (Option ℕ)) (numbers : List ℕ) (i : ℕ) (d : Option ℕ)
    → length keys ≡ length numbers → i < length keys → p (get_or keys i d) ≡ true
    → sum_where p (take i keys) (take i numbers) + get_or numbers i 0 ≤ sum numbers
where_fits p keys numbers i d e l is =
    let more = rw is at (where_more p keys numbers i d e l) in
    let within = where_le p (take (i + 1) keys) (take (i + 1) numbers) in
    let part = sum_by-take-le (λ (n : ℕ). n) numbers (i + 1) in
    omega (arith, more, within, part)

-- the sum that a number is added to
pub fits_at : (key : Option ℕ) (by_key : List ℕ) (without n most : ℕ)
    → ((m : ℕ) → key ≡ Some m → slice_index by_key m + n < most) → (key ≡ None → without + n < most)
    → MatchOption key (without + n < most) (λ m. slice_index by_key m + n < most)
fits_at None by_key without n most some none = none refl
fits_at (Some m) by_key without n most some none = some m refl

-- the sums of all keys

pub below_plus : (count : ℕ) (f g : ℕ → ℕ) → sum_below count (λ n. f n + g n) ≡ sum_below count f + sum_below count g
below_plus zero f g = refl
below_plus (suc n) f g = let rest = below_plus n f g in omega (arith, rest)

pub below_none : (count : ℕ) → sum_below count (λ n. 0) ≡ 0
below_none zero = refl
below_none (suc n) = let rest = below_none n in omega (arith, rest)

abbrev at_key : Option ℕ → ℕ → ℕ → ℕ
at_key key x n = if is_key n key then x else 0

past_key : (count m x : ℕ) → count ≤ m → sum_below count (at_key (Some m) x) ≡ 0
past_key zero m x l = refl
past_key (suc n) m x l =
    let rest = past_key n m x (omega arith) in
    let other : is_key n (Some m) ≡ false = ne_eqb m n (λ (e : m ≡ n). absurd (omega (arith, e, l))) in
    rw other (omega (arith, rest))

one_key : (count m x : ℕ) → m < count → sum_below count (at_key (Some m) x) ≡ x
one_key zero m x l = absurd (omega arith)
one_key (suc n) m x l = elim (cases_order m n) [
  | inl e ↦
      let rest = past_key n m x (omega (arith, e)) in
      rw (eq-eqb m n e) (omega (arith, rest))
  | inr (inl k) ↦
      let rest = one_key n m x k in
      let other : is_key n (Some m) ≡ false = ne_eqb m n (λ (e : m ≡ n). absurd (omega (arith, e, k))) in
      rw other (omega (arith, rest))
  | inr (inr k) ↦ absurd (omega (arith, k, l))
]

each_key : (count : ℕ) (key : Option ℕ) (x : ℕ) → IfSome key (λ n. n < count)
    → sum_below count (at_key key x) + (if is_none key then x else 0) ≡ x
each_key count None x l = let z = below_none count in omega (arith, z)
each_key count (Some m) x l = let one = one_key count m x l in omega (arith, one)

pub keys_add_up : KeysAddUp
keys_add_up count [] [] e within = let z = below_none count in omega (arith, z)
keys_add_up count [] (n ∷ numbers) e within = absurd (omega arith)
keys_add_up count (k ∷ keys) [] e within = absurd (omega arith)
keys_add_up count (k ∷ keys) (n ∷ numbers) e within =
    let rest = keys_add_up count keys numbers (omega arith) (λ i d l. within (suc i) d (omega (arith, l))) in
    let here = each_key count k n (within 0 k (omega arith)) in
    let plus = below_plus count (at_key k n) (λ m. sum_where (is_key m) keys numbers) in
    rw (sum_by-cons (λ (m : ℕ). m)) (omega (arith, rest, here, plus))

pub order_doesnt_matter : OrderDoesntMatter
order_doesnt_matter p keys numbers e = where_reverse p keys numbers e
