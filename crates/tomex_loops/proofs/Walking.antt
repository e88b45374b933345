-- The visits that are under way, kept in one list with the innermost last.
use Rattle.std.proofs.Common.{ℕ, ◌≤◌, ◌≡◌, ◌∙◌, refl, sym, ap, subst, arith, cond, Bool, true, false, List, [], ◌∷◌}
use Rattle.std.proofs.Common.{◌++◌, length, take, drop, reverse, Option, Some, None}
use Rattle.std.specs.Prelude.{MatchOption, unwrap_or}
use Rattle.std.specs.List.{flat_map}
use Rattle.std.specs.Option.{option_map, option_to_list}
use Rattle.std.proofs.lemmas.List.{append-nil, drop-append-le, length-take-le, nil_from_length, reverse-append}
use Rattle.std.proofs.lemmas.List.{take-append-drop}
use Rattle.tomex_loops.specs.declared.visit.Open.{Open}
use Rattle.tomex_loops.specs.Calls.{Calls, first_of}
use Rattle.tomex_loops.specs.Loops.{is_in_loop}
use Rattle.tomex_loops.specs.Visits.{all_open, innermost, still_open}
use Rattle.tomex_loops.specs.Walking.{AreGrounded}
use Rattle.tomex_loops.specs.Ways.{AreBases, around_in, calls_in}

-- all of the calls around
joined : (base : ℕ) (bases : List ℕ) (xs : List Open) → AreBases base bases → AreGrounded base bases → base ≤ length xs
    → flat_map (λ (ys : List Open). ys) (around_in reverse bases (take base xs)) ≡ reverse (take base xs)
joined base [] xs are ground low = subst (λ (n : ℕ). [] ≡ reverse (take n xs)) (sym ground) refl
joined base (b ∷ bases) xs are ground low =
    let n : length (take base xs) ≡ base = length-take-le base xs low in
    let rest = joined b bases (take base xs) are.1 ground (omega (arith, n, are.0)) in
    ap (λ (ys : List Open). reverse (drop b (take base xs)) ++ ys) rest
    ∙ sym (reverse-append (take b (take base xs)) (drop b (take base xs)))
    ∙ ap (λ (ys : List Open). reverse ys) (take-append-drop b (take base xs))

-- all
pub all_joined : (base : ℕ) (bases : List ℕ) (xs : List Open) → AreBases base bases → AreGrounded base bases
    → base ≤ length xs → all_open (calls_in reverse base bases xs) ≡ reverse xs
all_joined base bases xs are ground low =
    ap (λ (ys : List Open). reverse (drop base xs) ++ ys) (joined base bases xs are ground low)
    ∙ sym (reverse-append (take base xs) (drop base xs))
    ∙ ap (λ (ys : List Open). reverse ys) (take-append-drop base xs)

pub innermost_joined : (base : ℕ) (bases : List ℕ) (xs : List Open) (calls : Calls Open) → AreBases base bases
    → AreGrounded base bases → base ≤ length xs → calls_in reverse base bases xs ≡ calls
    → option_map (λ (v : Open). v.visit) (first_of (reverse xs)) ≡ innermost calls
innermost_joined base bases xs calls are ground low is =
    ap (λ (ys : List Open). option_map (λ (v : Open). v.visit) (first_of ys))
    (sym (all_joined base bases xs are ground low))
    ∙ ap (λ (c : Calls Open). innermost c) is

-- where the calls' own begins after a return
pub returned_ground : (base new_base n : ℕ) (bases rest : List ℕ) (popped : Option ℕ)
    → bases ≡ rest ++ option_to_list popped
    → MatchOption popped (length rest ≡ 0) (λ _. Unit {0}) → new_base ≡ unwrap_or popped n → n ≡ base
    → AreGrounded base (reverse bases) → AreGrounded new_base (reverse rest)
returned_ground base new_base n bases rest (Some b) split _ new many ground =
    let turned : reverse bases ≡ b ∷ reverse rest =
    ap (λ (ys : List ℕ). reverse ys) split ∙ reverse-append rest (b ∷ []) in
    let these : AreGrounded base (b ∷ reverse rest) = subst (λ (ys : List ℕ). AreGrounded base ys) turned ground in
    subst (λ (m : ℕ). AreGrounded m (reverse rest)) (sym new) these
returned_ground base new_base n bases rest None split none new many ground =
    let empty : rest ≡ [] = nil_from_length rest none in
    let all : bases ≡ [] = split ∙ append-nil rest ∙ empty in
    let bottom : base ≡ 0 = subst (λ (ys : List ℕ). AreGrounded base (reverse ys)) all ground in
    subst (λ (ys : List ℕ). AreGrounded new_base (reverse ys)) (sym empty) (new ∙ many ∙ bottom)

-- one visit of the latest call, the innermost
pub innermost_first : (base : ℕ) (xs : List Open) (x : Open) → base ≤ length xs
    → reverse (drop base (xs ++ x ∷ [])) ≡ x ∷ reverse (drop base xs)
innermost_first base xs x low = ap (λ (ys : List Open). reverse ys) (drop-append-le base xs (x ∷ []) low)
    ∙ reverse-append (drop base xs) (x ∷ [])

pub kept_open : (loop : ℕ → Option ℕ) (p : ℕ) (x : Open) (visits : List Open) → is_in_loop loop x.head p ≡ true
    → still_open loop p (x ∷ visits) ≡ x ∷ visits
kept_open loop p x visits is = ap (λ (b : Bool). cond b (x ∷ visits) (still_open loop p visits)) is

pub left_open : (loop : ℕ → Option ℕ) (p : ℕ) (x : Open) (visits : List Open) → is_in_loop loop x.head p ≡ false
    → still_open loop p (x ∷ visits) ≡ still_open loop p visits
left_open loop p x visits is = ap (λ (b : Bool). cond b (x ∷ visits) (still_open loop p visits)) is
