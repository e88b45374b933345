-- Lists in the order in which they read, and turns of a list.
use Rattle.std.proofs.Common.{ℕ, ◌+◌, ◌-◌, ◌<◌, ◌≤◌, ◌≡◌, ◌∙◌, ◌⊎◌, Bool, true, false, arith, refl, ap, sym, inl, inr}
use Rattle.std.proofs.Common.{List, [], ◌∷◌, ◌++◌, length, drop, take, get_or, zero, suc}
use Rattle.std.specs.Prelude.{◌==◌, ◌&&◌, ◌||◌, nat_lt, slice_index}
use Rattle.std.proofs.lemmas.Bool.{cases_Bool, cases_lt, cases_order, eq-eqb, ne_eqb, eqb-true, le-ltb, lt-ltb}
use Rattle.std.proofs.lemmas.Bool.{ltb-true}
use Rattle.std.proofs.lemmas.List.{drop_all, drop_more, get_or-append_right, get_or-drop, get_or-take}
use Rattle.std.proofs.lemmas.List.{get_or_append_left}
use Rattle.std.proofs.lemmas.List.{length-append, length-drop, length-take}
use Rattle.tomex_loops.specs.Pattern.{reads_less, turn}

-- what reading less says of the first numbers
less_first : (x y : ℕ) (xs ys : List ℕ) → reads_less (x ∷ xs) (y ∷ ys) ≡ true
    → (x < y) ⊎ ((x ≡ y) × (reads_less xs ys ≡ true))
less_first x y xs ys e = elim (cases_order x y) [
  | inl same ↦
      let f : reads_less xs ys ≡ true = rw (le-ltb x y (omega (arith, same)), eq-eqb x y same) at e in
      inr (same, f)
  | inr (inl below) ↦ inl below
  | inr (inr above) ↦
      let f : false ≡ true =
      rw (le-ltb x y (omega (arith, above)), ne_eqb x y (λ (z : x ≡ y). absurd (omega (arith, z, above)))) at e in
      absurd (cc)
]

less_from : (x y : ℕ) (xs ys : List ℕ) → (x < y) ⊎ ((x ≡ y) × (reads_less xs ys ≡ true))
    → reads_less (x ∷ xs) (y ∷ ys) ≡ true
less_from x y xs ys (inl below) = rw (lt-ltb x y below) refl
less_from x y xs ys (inr both) =
    let same = both.0 in rw (le-ltb x y (omega (arith, same)), eq-eqb x y same) both.1

pub less_trans : (xs ys zs : List ℕ) → reads_less xs ys ≡ true → reads_less ys zs ≡ true → reads_less xs zs ≡ true
less_trans [] ys zs e f = absurd (cc)
less_trans (x ∷ xs) [] zs e f = absurd (cc)
less_trans (x ∷ xs) (y ∷ ys) [] e f = absurd (cc)
less_trans (x ∷ xs) (y ∷ ys) (z ∷ zs) e f = elim (less_first x y xs ys e) [
  | inl below ↦ elim (less_first y z ys zs f) [
    | inl more ↦ less_from x z xs zs (inl (omega (arith, below, more)))
    | inr both ↦ let same = both.0 in less_from x z xs zs (inl (omega (arith, below, same)))
  ]
  | inr first ↦ elim (less_first y z ys zs f) [
    | inl more ↦ let same = first.0 in less_from x z xs zs (inl (omega (arith, same, more)))
    | inr both ↦ less_from x z xs zs (inr (first.0 ∙ both.0, less_trans xs ys zs first.1 both.1))
  ]
]

pub less_self : (xs : List ℕ) → reads_less xs xs ≡ false
less_self [] = refl
less_self (x ∷ xs) = rw (le-ltb x x (omega arith), eq-eqb x x refl) (less_self xs)

-- a list that isn't less than one isn't less than a lesser one
pub not_less : (xs ys zs : List ℕ) → reads_less xs zs ≡ false → reads_less ys zs ≡ true → reads_less xs ys ≡ false
not_less xs ys zs e f = elim (cases_Bool (reads_less xs ys)) [
  | inl less ↦ let all = less_trans xs ys zs less f in absurd (cc)
  | inr fine ↦ fine
]

pub length_turn : (k : ℕ) (xs : List ℕ) → k ≤ length xs → length (turn k xs) ≡ length xs
length_turn k xs l =
    omega (arith, length-append (drop k xs) (take k xs), length-drop k xs, length-take k xs, l)

-- lists that are equal up to a place, and there
pub less_more : (xs ys : List ℕ) (k : ℕ) (b : Bool) → k < length xs → k < length ys
    → get_or xs k 0 ≡ get_or ys k 0 → b ≡ reads_less (drop k xs) (drop k ys)
    → b ≡ reads_less (drop (k + 1) xs) (drop (k + 1) ys)
less_more xs ys k b l m same is =
    let now = rw (drop_more xs k 0 l, drop_more ys k 0 m) at is in
    rw (le-ltb (get_or xs k 0) (get_or ys k 0) (omega (arith, same)), eq-eqb (get_or xs k 0) (get_or ys k 0) same)
    at now

pub less_here : (xs ys : List ℕ) (k : ℕ) (b : Bool) → k < length xs → k < length ys
    → (get_or xs k 0 ≡ get_or ys k 0 → ⊥) → b ≡ reads_less (drop k xs) (drop k ys)
    → nat_lt (get_or xs k 0) (get_or ys k 0) ≡ b
less_here xs ys k b l m differ is =
    let now = rw (drop_more xs k 0 l, drop_more ys k 0 m) at is in
    let e = ne_eqb (get_or xs k 0) (get_or ys k 0) differ in
    elim (cases_Bool (nat_lt (get_or xs k 0) (get_or ys k 0))) [
      | inl t ↦ let f : b ≡ true = rw t at now in t ∙ sym f
      | inr t ↦ let f : b ≡ false = rw (t, e) at now in t ∙ sym f
    ]

pub less_end : (xs ys : List ℕ) (k : ℕ) (b : Bool) → length xs ≤ k → b ≡ reads_less (drop k xs) (drop k ys)
    → b ≡ false
less_end xs ys k b l is = rw (drop_all k xs l) at is

-- a turn's numbers
pub turn_early : (xs : List ℕ) (start place : ℕ) → start ≤ length xs → place < length xs - start
    → slice_index (turn start xs) place ≡ get_or xs (start + place) 0
turn_early xs start place l m =
    get_or_append_left (drop start xs) (take start xs) 0 place (omega (arith, length-drop start xs, m))
    ∙ get_or-drop start xs place 0

pub turn_late : (xs : List ℕ) (start place : ℕ) → start ≤ length xs → length xs - start ≤ place → place < length xs
    → slice_index (turn start xs) place ≡ get_or xs (place - (length xs - start)) 0
turn_late xs start place l m n =
    get_or-append_right (drop start xs) (take start xs) (length xs - start) place 0 (length-drop start xs) m
    ∙ get_or-take start xs (place - (length xs - start)) 0 (omega (arith, l, m, n))
