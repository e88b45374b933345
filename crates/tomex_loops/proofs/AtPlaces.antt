-- In a list in order each number stands at its place, and equal ones stand together.
use Rattle.std.proofs.Common.{ℕ, ◌+◌, ◌-◌, ◌<◌, ◌≤◌, ◌≡◌, ◌∙◌, Bool, true, false, arith, refl, ap, sym, inl, inr, suc}
use Rattle.std.proofs.Common.{List, [], ◌∷◌, length, take, drop, get_or, count_by}
use Rattle.std.specs.Prelude.{◌==◌, ◌||◌, not, nat_le, nat_lt, if◌then◌else◌}
use Rattle.std.specs.List.Sorted.{IsNonDecreasing}
use Rattle.std.proofs.lemmas.Bool.{cases_Bool, cases_lt, cases_order, eq-eqb, ne_eqb, le-leb, le-ltb, lt-ltb, eqb-true}
use Rattle.std.proofs.lemmas.List.{get_or-drop, get_or-take, length-drop, length-take}
use Rattle.std.proofs.lemmas.List.Sums.{count_by-le-length, count_by_more_no, count_by_more_yes, sum_by-cons}
use Rattle.std.proofs.lemmas.List.Sums.{sum_by-take-drop}
use Rattle.tomex_loops.specs.Rounds.{IsAtPlace, rounds_of}

none_pass : (p : ℕ → Bool) (xs : List ℕ) → ((i : ℕ) → i < length xs → p (get_or xs i 0) ≡ false)
    → count_by p xs ≡ 0
none_pass p [] fails = refl
none_pass p (x ∷ xs) fails =
    let rest = none_pass p xs (λ i l. fails (suc i) (omega (arith, l))) in
    let here : p x ≡ false = fails 0 (omega arith) in
    rw (sum_by-cons, here) (omega (arith, rest))

all_pass : (p : ℕ → Bool) (xs : List ℕ) → ((i : ℕ) → i < length xs → p (get_or xs i 0) ≡ true)
    → count_by p xs ≡ length xs
all_pass p [] passes = refl
all_pass p (x ∷ xs) passes =
    let rest = all_pass p xs (λ i l. passes (suc i) (omega (arith, l))) in
    let here : p x ≡ true = passes 0 (omega arith) in
    rw (sum_by-cons, here) (omega (arith, rest))

count_split : (p : ℕ → Bool) (xs : List ℕ) (k : ℕ) → count_by p (take k xs) + count_by p (drop k xs) ≡ count_by p xs
count_split p xs k = sum_by-take-drop (λ x. if p x then 1 else 0) xs k

pub at_place : (xs : List ℕ) (k : ℕ) → IsNonDecreasing xs → k < length xs → IsAtPlace xs k (get_or xs k 0)
at_place xs k order l =
    let n = get_or xs k 0 in
    let late = none_pass (λ x. nat_lt x (get_or xs k 0)) (drop k xs) (λ i m.
    rw (get_or-drop k xs i 0) (le-ltb (get_or xs (k + i) 0) (get_or xs k 0)
    (order k (k + i) 0 (omega arith) (omega (arith, m, length-drop k xs))))) in
    let early = all_pass (λ x. nat_le x (get_or xs k 0)) (take (k + 1) xs) (λ i m.
    let small : i < k + 1 = omega (arith, m, length-take (k + 1) xs) in
    rw (get_or-take (k + 1) xs i 0 small) (le-leb (get_or xs i 0) (get_or xs k 0)
    (order i k 0 (omega (arith, small)) l))) in
    let few = count_by-le-length (λ x. nat_lt x (get_or xs k 0)) (take k xs) in
    let below = count_split (λ x. nat_lt x (get_or xs k 0)) xs k in
    let here = count_split (λ x. nat_le x (get_or xs k 0)) xs (k + 1) in
    record {
      below = omega (arith, late, few, below, length-take k xs);
      here = omega (arith, early, here, length-take (k + 1) xs, l);
    }

-- the number that occurs most often so far

pub record IsSoFar (xs : List ℕ) (k s a u : ℕ) : Type 0 where
  pub same : 0 < k → s ≡ rounds_of (take k xs) (get_or xs (k - 1) 0)
  pub none : k ≡ 0 → a ≡ 0
  pub within : s ≤ a
  pub few : a ≤ k
  pub alike : a ≡ rounds_of (take k xs) u
  pub usual : (n : ℕ) → rounds_of (take k xs) n ≤ a
  pub first : (n : ℕ) → n < u → 0 < k → rounds_of (take k xs) n < a
  pub low : 0 < k → u ≤ get_or xs (k - 1) 0

more : (xs : List ℕ) (k n : ℕ) → k < length xs
    → rounds_of (take (k + 1) xs) n ≡ rounds_of (take k xs) n + (if get_or xs k 0 == n then 1 else 0)
more xs k n l = elim (cases_Bool (get_or xs k 0 == n)) [
  | inl e ↦ rw e (count_by_more_yes (λ x. x == n) xs k 0 l e)
  | inr e ↦ let m = count_by_more_no (λ x. x == n) xs k 0 l e in rw e (omega (arith, m))
]

more_here : (xs : List ℕ) (k : ℕ) → k < length xs
    → rounds_of (take (k + 1) xs) (get_or xs k 0) ≡ rounds_of (take k xs) (get_or xs k 0) + 1
more_here xs k l =
    let e : (get_or xs k 0 == get_or xs k 0) ≡ true = eq-eqb (get_or xs k 0) (get_or xs k 0) refl in
    rw e at (more xs k (get_or xs k 0) l)

more_other : (xs : List ℕ) (k n : ℕ) → k < length xs → (get_or xs k 0 == n) ≡ false
    → rounds_of (take (k + 1) xs) n ≡ rounds_of (take k xs) n
more_other xs k n l e = let m = rw e at (more xs k n l) in omega (arith, m)

-- a number that is greater than all before is new
none_before : (xs : List ℕ) (k : ℕ) → IsNonDecreasing xs → k < length xs
    → (0 < k → get_or xs (k - 1) 0 < get_or xs k 0) → rounds_of (take k xs) (get_or xs k 0) ≡ 0
none_before xs k order l above = none_pass (λ x. x == get_or xs k 0) (take k xs) (λ i m.
    let small : i < k = omega (arith, m, length-take k xs) in
    let low = order i (k - 1) 0 (omega (arith, small)) (omega (arith, l)) in
    let high = above (omega (arith, small)) in
    rw (get_or-take k xs i 0 small) (ne_eqb (get_or xs i 0) (get_or xs k 0)
    (λ (e : get_or xs i 0 ≡ get_or xs k 0). absurd (omega (arith, e, low, high)))))

-- how often the last number occurs
same_more : (xs : List ℕ) (k s a u new : ℕ) → IsNonDecreasing xs → k < length xs → IsSoFar xs k s a u
    → new ≡ (if k == 0 || not (get_or xs k 0 == get_or xs (k - 1) 0) then 1 else s + 1)
    → new ≡ rounds_of (take (k + 1) xs) (get_or xs k 0)
same_more xs k s a u new order l so is = elim (cases_lt 0 k) [
  | inl pos ↦
      let some : (k == 0) ≡ false = ne_eqb k 0 (λ (e : k ≡ 0). absurd (omega (arith, e, pos))) in
      let was = so.same pos in
      let here = more_here xs k l in
      elim (cases_Bool (get_or xs k 0 == get_or xs (k - 1) 0)) [
        | inl e ↦
            let now : new ≡ s + 1 = rw (some, e) at is in
            let equal = eqb-true (get_or xs k 0) (get_or xs (k - 1) 0) e in
            let moved : rounds_of (take k xs) (get_or xs k 0) ≡ rounds_of (take k xs) (get_or xs (k - 1) 0) =
            ap (λ (n : ℕ). rounds_of (take k xs) n) equal in
            omega (arith, now, was, here, moved)
        | inr e ↦
            let now : new ≡ 1 = rw (some, e) at is in
            let step = order (k - 1) k 0 (omega arith) l in
            let none = none_before xs k order l (λ p. elim (cases_order (get_or xs (k - 1) 0) (get_or xs k 0)) [
              | inl same ↦
                  let clash : true ≡ false =
                  sym (eq-eqb (get_or xs k 0) (get_or xs (k - 1) 0) (sym same)) ∙ e in
                  absurd (cc)
              | inr (inl below) ↦ below
              | inr (inr above) ↦ absurd (omega (arith, above, step))
            ]) in
            omega (arith, now, here, none)
      ]
  | inr zero_or ↦
      let start : (k == 0) ≡ true = eq-eqb k 0 (omega (arith, zero_or)) in
      let now : new ≡ 1 = rw start at is in
      let none = none_before xs k order l (λ p. absurd (omega (arith, p, zero_or))) in
      let here = more_here xs k l in
      omega (arith, now, here, none)
]

same_high : (b : Bool) (s new : ℕ) → new ≡ (if b then 1 else s + 1) → new ≤ s + 1
same_high true s new e = omega (arith, e)
same_high false s new e = omega (arith, e)

pub so_far_more : (xs : List ℕ) (k s a u new_s new_a new_u : ℕ) → IsNonDecreasing xs → k < length xs
    → IsSoFar xs k s a u
    → new_s ≡ (if k == 0 || not (get_or xs k 0 == get_or xs (k - 1) 0) then 1 else s + 1)
    → new_a ≡ (if nat_lt a new_s then new_s else a) → new_u ≡ (if nat_lt a new_s then get_or xs k 0 else u)
    → IsSoFar xs (k + 1) new_s new_a new_u
so_far_more xs k s a u new_s new_a new_u order l so is_s is_a is_u =
    let same = same_more xs k s a u new_s order l so is_s in
    let high = same_high (k == 0 || not (get_or xs k 0 == get_or xs (k - 1) 0)) s new_s is_s in
    let last : k + 1 - 1 ≡ k = omega arith in
    let within = so.within in
    let few = so.few in
    elim (cases_lt a new_s) [
      | inl more_now ↦
          let e = lt-ltb a new_s more_now in
          let now_a : new_a ≡ new_s = rw e at is_a in
          let now_u : new_u ≡ get_or xs k 0 = rw e at is_u in
          record {
            same = λ p. rw last same;
            none = λ z. absurd (omega (arith, z));
            within = omega (arith, now_a);
            few = omega (arith, now_a, high, within, few);
            alike = rw now_u (omega (arith, now_a, same));
            usual = λ n. let m = so.usual n in elim (cases_Bool (get_or xs k 0 == n)) [
              | inl y ↦ let r = rw y at (more xs k n l) in omega (arith, r, m, now_a, more_now)
              | inr y ↦ let r = more_other xs k n l y in omega (arith, r, m, now_a, more_now)
            ];
            first = λ n below p.
                let m = so.usual n in
                let r = more_other xs k n l (ne_eqb (get_or xs k 0) n
                (λ (z : get_or xs k 0 ≡ n). absurd (omega (arith, z, below, now_u)))) in
                omega (arith, r, m, now_a, more_now);
            low = λ p. rw last (omega (arith, now_u));
          }
      | inr no_more ↦
          let e = le-ltb a new_s no_more in
          let now_a : new_a ≡ a = rw e at is_a in
          let now_u : new_u ≡ u = rw e at is_u in
          let here = more_here xs k l in
          let pos : 0 < k = elim (cases_lt 0 k) [
            | inl p ↦ p
            | inr p ↦ let z = so.none (omega (arith, p)) in absurd (omega (arith, z, same, here, no_more))
          ] in
          let low = so.low pos in
          let step = order (k - 1) k 0 (omega arith) l in
          let other : (get_or xs k 0 == u) ≡ false = ne_eqb (get_or xs k 0) u (λ (z : get_or xs k 0 ≡ u).
          let c = so.alike in
          let moved : rounds_of (take k xs) (get_or xs k 0) ≡ rounds_of (take k xs) u =
          ap (λ (n : ℕ). rounds_of (take k xs) n) z in
          absurd (omega (arith, c, moved, here, same, no_more))) in
          record {
            same = λ p. rw last same;
            none = λ z. absurd (omega (arith, z));
            within = omega (arith, now_a, no_more);
            few = omega (arith, now_a, few);
            alike = let c = so.alike in let r = more_other xs k u l other in rw now_u (omega (arith, now_a, c, r));
            usual = λ n. let m = so.usual n in elim (cases_Bool (get_or xs k 0 == n)) [
              | inl y ↦
                  let equal = eqb-true (get_or xs k 0) n y in
                  let moved : rounds_of (take (k + 1) xs) (get_or xs k 0) ≡ rounds_of (take (k + 1) xs) n =
                  ap (λ (n : ℕ). rounds_of (take (k + 1) xs) n) equal in
                  omega (arith, moved, same, now_a, no_more)
              | inr y ↦ let r = more_other xs k n l y in omega (arith, r, m, now_a)
            ];
            first = λ n below p.
                let m = so.first n (omega (arith, below, now_u)) pos in
                let r = more_other xs k n l (ne_eqb (get_or xs k 0) n
                (λ (z : get_or xs k 0 ≡ n). absurd (omega (arith, z, below, now_u, low, step)))) in
                omega (arith, r, m, now_a);
            low = λ p. rw last (omega (arith, now_u, low, step));
          }
    ]

pub none_yet : (xs : List ℕ) → IsSoFar xs 0 0 0 0
none_yet xs = record {
  same = λ p. absurd (omega (arith, p));
  none = λ z. refl;
  within = omega arith;
  few = omega arith;
  alike = refl;
  usual = λ n. omega arith;
  first = λ n below p. absurd (omega (arith, p));
  low = λ p. absurd (omega (arith, p));
}
