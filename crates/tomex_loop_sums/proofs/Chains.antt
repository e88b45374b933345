-- The visits that a step is in, found from the last visit to the first.
use Rattle.std.proofs.Common.{ℕ, zero, suc, ◌+◌, ◌<◌, ◌≤◌, ◌≡◌, Bool, true, false, arith, refl, sym, ap, inl, inr}
use Rattle.std.proofs.Common.{List, [], ◌∷◌, Option, Some, None, length, get_or, subst}
use Rattle.std.specs.Prelude.{All, IfSome, ◌==◌, ◌&&◌, ◌||◌, if◌then◌else◌, nat_le, nat_lt}
use Rattle.std.specs.List.{list_any}
use Rattle.std.proofs.lemmas.Bool.{and_right, cases_lt, cases_order, eq-eqb, le-leb, le-ltb, lt-leb, lt-ltb}
use Rattle.std.proofs.lemmas.Bool.{ne_eqb}
use Rattle.std.proofs.Math.Bool.{or-false, or_assoc}
use Rattle.std.proofs.lemmas.List.{get_or_past}
use Rattle.tomex_loop_sums.specs.Extents.{is_at, is_in_visit, is_in_visit_of, visits_around, visits_at}

abbrev pub is_among : List ℕ → ℕ → Bool
is_among visits v = list_any (λ u. u == v) visits

pub here_low : (here : List (Option ℕ)) (n s : ℕ) → All (λ o. IfSome o (λ v. v < n)) here
    → IfSome (get_or here s None) (λ v. v < n)
here_low here n s all = elim (cases_lt s (length here)) [
  | inl l ↦ all s None l
  | inr past ↦ rw (get_or_past here s None past) tt
]

pub weaker : (o : Option ℕ) (m n : ℕ) → m ≤ n → IfSome o (λ u. u < m) → IfSome o (λ u. u < n)
weaker None m n l low = tt
weaker (Some u) m n l low = omega (arith, l, low)

-- the visits around up to the first with a number below i
abbrev pub visits_to : List (Option ℕ) → ℕ → ℕ → Option ℕ → List ℕ
visits_to within i n None = []
visits_to within i zero (Some v) = []
visits_to within i (suc n) (Some v) = v ∷ (if nat_le i v then visits_to within i n (get_or within v None) else [])

module _ (within : List (Option ℕ)) (lower : (v : ℕ) → IfSome (get_or within v None) (λ u. u < v)) where
  pub to_alone : (i n : ℕ) (o : Option ℕ) (v : ℕ) → IfSome o (λ u. u < i) → IfSome o (λ u. u < n)
      → is_among (visits_to within i n o) v ≡ is_at v o
  to_alone i n None v low few = refl
  to_alone i zero (Some w) v low few = absurd (omega (arith, few))
  to_alone i (suc n) (Some w) v low few = rw (lt-leb i w low) (or-false (w == v))

  same_ors : (a b : Bool) → (a || b) ≡ ((a || false) || (b && true))
  same_ors true b = refl
  same_ors false true = refl
  same_ors false false = refl

  next_same : (p n v : ℕ) → p ≤ n
      → is_among (visits_to within p (suc n) (Some p)) v
      ≡ (is_among (visits_to within (p + 1) (suc n) (Some p)) v
      || (is_at v (get_or within p None) && is_among (visits_to within (p + 1) (suc n) (Some p)) p))
  next_same p n v l =
      let alone = to_alone p n (get_or within p None) v (lower p) (weaker (get_or within p None) p n l (lower p)) in
      rw (le-leb p p (omega arith), lt-leb (p + 1) p (omega arith), eq-eqb p p refl, alone)
      (same_ors (p == v) (is_at v (get_or within p None)))

  pub to_next : (p n : ℕ) (o : Option ℕ) (v : ℕ) → IfSome o (λ u. u < n)
      → is_among (visits_to within p n o) v
      ≡ (is_among (visits_to within (p + 1) n o) v
      || (is_at v (get_or within p None) && is_among (visits_to within (p + 1) n o) p))
  to_next p n None v few = sym (and_right (is_at v (get_or within p None)) false refl)
  to_next p zero (Some w) v few = absurd (omega (arith, few))
  to_next p (suc n) (Some w) v few = elim (cases_order p w) [
    | inl same ↦
        subst (λ (u : ℕ). is_among (visits_to within p (suc n) (Some u)) v
        ≡ (is_among (visits_to within (p + 1) (suc n) (Some u)) v
        || (is_at v (get_or within p None) && is_among (visits_to within (p + 1) (suc n) (Some u)) p))) same
        (next_same p n v (omega (arith, few, same)))
    | inr (inl above) ↦
        let rest = to_next p n (get_or within w None) v
        (weaker (get_or within w None) w n (omega (arith, few)) (lower w)) in
        rw (
          le-leb p w (omega (arith, above)),
          le-leb (p + 1) w (omega (arith, above)),
          ne_eqb w p (λ (z : w ≡ p). absurd (omega (arith, z, above))),
          rest,
        ) (sym (or_assoc (w == v) _ _))
    | inr (inr below) ↦
        rw (
          lt-leb p w below,
          lt-leb (p + 1) w (omega (arith, below)),
          ne_eqb w p (λ (z : w ≡ p). absurd (omega (arith, z, below))),
          and_right (is_at v (get_or within p None)) false refl,
        ) (sym (or-false ((w == v) || false)))
  ]

  pub to_first : (n : ℕ) (o : Option ℕ) → visits_around within n o ≡ visits_to within 0 n o
  to_first n None = refl
  to_first zero (Some w) = refl
  to_first (suc n) (Some w) =
      rw (le-leb 0 w (omega arith)) (ap (λ (xs : List ℕ). w ∷ xs) (to_first n (get_or within w None)))

  -- of the visits below a number, if all are
  pub all_below : (p : ℕ → Bool) (m n : ℕ) (o : Option ℕ) → IfSome o (λ u. u < n) → n ≤ m
      → list_any p (visits_around within n o) ≡ list_any (λ v. nat_lt v m && p v) (visits_around within n o)
  all_below p m n None few l = refl
  all_below p m zero (Some w) few l = refl
  all_below p m (suc n) (Some w) few l =
      let rest = all_below p m n (get_or within w None)
      (weaker (get_or within w None) w n (omega (arith, few)) (lower w)) (omega (arith, l)) in
      rw (lt-ltb w m (omega (arith, few, l))) (ap (λ (b : Bool). p w || b) rest)

-- a visit is found for a step if those from i on are done
abbrev pub is_found : (within here : List (Option ℕ)) → ℕ → ℕ → ℕ → Bool
is_found within here i v step = is_among (visits_to within i (length within) (get_or here step None)) v

module _ (within here : List (Option ℕ)) (lower : (v : ℕ) → IfSome (get_or within v None) (λ u. u < v))
    (all : All (λ o. IfSome o (λ v. v < length within)) here) where
  pub found_none : (v s : ℕ) → is_found within here (length within) v s ≡ is_at v (get_or here s None)
  found_none v s =
      let low = here_low here (length within) s all in
      to_alone within lower (length within) (length within) (get_or here s None) v low low

  pub found_more : (p i v s : ℕ) → p + 1 ≡ i → is_found within here p v s
      ≡ (is_found within here i v s || (is_at v (get_or within p None) && is_found within here i p s))
  found_more p i v s e = subst (λ (j : ℕ). is_found within here p v s
      ≡ (is_found within here j v s || (is_at v (get_or within p None) && is_found within here j p s))) e
      (to_next within lower p (length within) (get_or here s None) v (here_low here (length within) s all))

  pub found_all : (v s : ℕ) → is_in_visit within here v s ≡ is_found within here 0 v s
  found_all v s =
      ap (λ (visits : List ℕ). is_among visits v) (to_first within lower (length within) (get_or here s None))

-- a step is in one of the first visits of loop n
abbrev pub is_in_first : List ℕ → (within here : List (Option ℕ)) → ℕ → ℕ → ℕ → Bool
is_in_first loops within here j n step =
    list_any (λ v. nat_lt v j && get_or loops v 0 == n) (visits_at within here step)

once : (b c d : Bool) → (b || (c || (b && d))) ≡ (c || (b && true))
once true true d = refl
once true false d = refl
once false c d = refl

-- of the visits below a number, and one more
below_more : (p : ℕ → Bool) (j : ℕ) (visits : List ℕ) → list_any (λ v. nat_lt v (j + 1) && p v) visits
    ≡ (list_any (λ v. nat_lt v j && p v) visits || (p j && is_among visits j))
below_more p j [] = sym (and_right (p j) false refl)
below_more p j (x ∷ visits) =
    let rest = below_more p j visits in
    elim (cases_order x j) [
      | inl same ↦
          let e : p x ≡ p j = ap p same in
          rw (lt-ltb x (j + 1) (omega (arith, same)), le-ltb x j (omega (arith, same)), eq-eqb x j same, e, rest)
          (once (p j) (list_any (λ v. nat_lt v j && p v) visits) (is_among visits j))
      | inr (inl less) ↦
          rw (
            lt-ltb x (j + 1) (omega (arith, less)),
            lt-ltb x j less,
            ne_eqb x j (λ (z : x ≡ j). absurd (omega (arith, z, less))),
            rest,
          ) (sym (or_assoc (p x) _ _))
      | inr (inr more) ↦
          rw (
            le-ltb x (j + 1) (omega (arith, more)),
            le-ltb x j (omega (arith, more)),
            ne_eqb x j (λ (z : x ≡ j). absurd (omega (arith, z, more))),
          ) rest
    ]

none_below : (p : ℕ → Bool) (visits : List ℕ) → list_any (λ v. nat_lt v 0 && p v) visits ≡ false
none_below p [] = refl
none_below p (x ∷ visits) = rw (le-ltb x 0 (omega arith)) (none_below p visits)

pub first_none : (loops : List ℕ) (within here : List (Option ℕ)) (n s : ℕ)
    → is_in_first loops within here 0 n s ≡ false
first_none loops within here n s = none_below (λ v. get_or loops v 0 == n) (visits_at within here s)

pub first_more : (loops : List ℕ) (within here : List (Option ℕ)) (j n s : ℕ)
    → is_in_first loops within here (j + 1) n s
    ≡ (is_in_first loops within here j n s || (is_at n (Some (get_or loops j 0)) && is_in_visit within here j s))
first_more loops within here j n s = below_more (λ v. get_or loops v 0 == n) j (visits_at within here s)

pub first_all : (loops : List ℕ) (within here : List (Option ℕ)) (j n s : ℕ)
    → ((v : ℕ) → IfSome (get_or within v None) (λ u. u < v)) → All (λ o. IfSome o (λ v. v < length within)) here
    → length within ≤ j → is_in_visit_of loops within here n s ≡ is_in_first loops within here j n s
first_all loops within here j n s lower all l =
    all_below within lower (λ v. get_or loops v 0 == n) j (length within) (get_or here s None)
    (here_low here (length within) s all) l
