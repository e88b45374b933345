-- A loop given twice is given once.
use Rattle.std.proofs.Common.{ℕ, zero, suc, ◌+◌, ◌<◌, ◌≤◌, ◌≡◌, ◌≢◌, ◌∙◌, refl, sym, ap, subst, arith, cond, Bool, true}
use Rattle.std.proofs.Common.{false, List}
use Rattle.std.proofs.Common.{[], ◌∷◌, length, take, get_or, set, Option, Some, None, eqb, ⊎_elim, min}
use Rattle.std.specs.Prelude.{not, is_none, ◌&&◌, ◌||◌, IfSome}
use Rattle.std.proofs.lemmas.Bool.{cases_eq, eq-eqb, ne_eqb}
use Rattle.std.proofs.lemmas.List.{get_or-set_other, get_or-set_same}
use Rattle.std.proofs.lemmas.List.Folds.{list_any_more}
use Rattle.std.specs.Option.{option_map}
use Rattle.std.specs.Prelude.{is_some}
use Rattle.tomex_loops.proofs.Ways.{among-stand}
use Rattle.tomex_loops.specs.Loops.{stand, head_of, is_among, is_one_among, loop_after, loop_given}
use Rattle.tomex_loops.specs.Ways.{AreLower}

given_by : (e : Bool) (takes : Option ℕ → Bool) (head : ℕ) → Option ℕ → Option ℕ
given_by e takes head o = cond (not e && takes o) (Some head) o

twice_by : (e : Bool) (takes : Option ℕ → Bool) (head : ℕ) (o : Option ℕ) (t : Bool) → takes o ≡ t
    → cond (not e && takes (cond (not e && t) (Some head) o)) (Some head) (cond (not e && t) (Some head) o)
    ≡ cond (not e && t) (Some head) o
twice_by true takes head o t is = refl
twice_by false takes head o true is =
    elim (takes (Some head)) as (λ b. cond b (Some head) (Some head) ≡ Some head) [ true ↦ refl | false ↦ refl ]
twice_by false takes head o false is = rw is refl

pub given_twice : (before : List ℕ) (head x : ℕ) (o : Option ℕ)
    → loop_given before head x (loop_given before head x o) ≡ loop_given before head x o
given_twice before head x o =
    twice_by (eqb x head) (λ (r : Option ℕ). is_none r || is_one_among before r) head o
    (is_none o || is_one_among before o) refl

step_by : (a : Bool) (G : Option ℕ → Option ℕ) (o : Option ℕ) → G (G o) ≡ G o → G (cond a (G o) o) ≡ G o
step_by true G o twice = twice
step_by false G o twice = refl

-- at the place itself
pub given_here : (before round : List ℕ) (head x i : ℕ) (old : ℕ → Option ℕ) (cur : Option ℕ) → i < length round
    → get_or round i 0 ≡ x → cur ≡ loop_after before (take i round) head old x
    → loop_given before head x cur ≡ loop_after before (take (i + 1) round) head old x
given_here before round head x i old cur h at is =
    let now : is_among (take (i + 1) round) x ≡ true = list_any_more (λ y. eqb y x) round i 0 h
    ∙ ap (λ (b : Bool). is_among (take i round) x || b) (eq-eqb (get_or round i 0) x at)
    ∙ (elim (is_among (take i round) x) as (λ b. (b || true) ≡ true) [ true ↦ refl | false ↦ refl ]) in
    ap (λ (r : Option ℕ). loop_given before head x r) is
    ∙ step_by (is_among (take i round) x) (λ (r : Option ℕ). loop_given before head x r) (old x)
    (given_twice before head x (old x))
    ∙ sym (rw now refl)

-- at another place
pub given_elsewhere : (before round : List ℕ) (head x i : ℕ) (old : ℕ → Option ℕ) → i < length round
    → get_or round i 0 ≢ x
    → loop_after before (take i round) head old x ≡ loop_after before (take (i + 1) round) head old x
given_elsewhere before round head x i old h ne =
    let now : is_among (take (i + 1) round) x ≡ is_among (take i round) x = list_any_more (λ y. eqb y x) round i 0 h
    ∙ ap (λ (b : Bool). is_among (take i round) x || b) (ne_eqb (get_or round i 0) x ne)
    ∙ (elim (is_among (take i round) x) as (λ b. (b || false) ≡ b) [ true ↦ refl | false ↦ refl ]) in
    sym (rw now refl)

-- the head is given only to places after it
pub given_lower : (before : List ℕ) (head x : ℕ) (o : Option ℕ) → head ≤ x → IfSome o (λ h. h < x)
    → IfSome (loop_given before head x o) (λ h. h < x)
given_lower before head x o low has = ⊎_elim
    (λ (e : x ≡ head). let same : eqb x head ≡ true = eq-eqb x head e in rw same has)
    (λ (ne : x ≢ head). let other : eqb x head ≡ false = ne_eqb x head ne in
    rw other (elim (is_none o || is_one_among before o)
    as (λ b. IfSome (cond b (Some head) o) (λ h. h < x)) [ true ↦ omega (arith, low, ne) | false ↦ has ]))
    (cases_eq x head)

pub lower_set : (loops : List (Option ℕ)) (x : ℕ) (o : Option ℕ) → AreLower loops → IfSome o (λ h. h < x)
    → x < length loops → AreLower (set loops x o)
lower_set loops x o are one inside = λ y. ⊎_elim
    (λ (e : y ≡ x). subst (λ (z : ℕ). IfSome (get_or (set loops x o) z None) (λ h. h < z)) (sym e)
    (rw (get_or-set_same loops x o None inside) one))
    (λ (ne : y ≢ x). rw (get_or-set_other loops x y o None ne) (are y))
    (cases_eq y x)

-- the head of a round is the least of its places
pub head_at_most_first : (p : ℕ) (round : List ℕ) → head_of p round ≤ p
head_at_most_first p [] = omega arith
head_at_most_first p (x ∷ round) = let low = head_at_most_first (min p x) round in omega (arith, low)

pub head_least : (p : ℕ) (round : List ℕ) (k : ℕ) → k < length round → head_of p round ≤ get_or round k 0
head_least p [] k h = omega arith
head_least p (x ∷ round) zero h = let low = head_at_most_first (min p x) round in omega (arith, low)
head_least p (x ∷ round) (suc k) h = head_least (min p x) round k (omega arith)

among_there : {U : Type 0} (f : ℕ → U) (before : List ℕ) (around : ℕ) (o : Option ℕ) (r : U)
    → o ≡ stand before around → Some r ≡ option_map f o → is_among before around ≡ true
among_there f before around (Some k) r at is = among-stand before around ∙ ap (λ (o : Option ℕ). is_some o) (sym at)
among_there f before around None r at is = absurd (cc is)

not_among : {U : Type 0} (f : ℕ → U) (before : List ℕ) (around : ℕ) (o : Option ℕ)
    → o ≡ stand before around → None ≡ option_map f o → is_among before around ≡ false
not_among f before around (Some k) at is = absurd (cc is)
not_among f before around None at is = among-stand before around ∙ ap (λ (o : Option ℕ). is_some o) (sym at)

pub given_inside : {U : Type 0} (f : ℕ → U) (before : List ℕ) (head place around : ℕ) (has : Option ℕ) (r : U)
    → has ≡ Some around → place ≢ head → Some r ≡ option_map f (stand before around)
    → Some head ≡ loop_given before head place has
given_inside f before head place around has r is ne found =
    let other : eqb place head ≡ false = ne_eqb place head ne in
    let there : is_among before around ≡ true = among_there f before around (stand before around) r refl found in
    rw (is, other, there) refl

pub given_outside : {U : Type 0} (f : ℕ → U) (before : List ℕ) (head place around : ℕ) (has : Option ℕ)
    → has ≡ Some around → place ≢ head → None ≡ option_map f (stand before around)
    → Some around ≡ loop_given before head place has
given_outside f before head place around has is ne missing =
    let other : eqb place head ≡ false = ne_eqb place head ne in
    let gone : is_among before around ≡ false = not_among f before around (stand before around) refl missing in
    rw (is, other, gone) refl
