-- What all calls have after a move, kept in one list.
use Rattle.std.proofs.Common.{ℕ, ◌+◌, ◌≤◌, ◌≡◌, ◌∙◌, refl, ap, arith, List, [], ◌∷◌, ◌++◌, length}
use Rattle.std.proofs.Common.{take, drop, take_all, reverse, subst, Option, Some, None}
use Rattle.std.specs.Prelude.{MatchOption, unwrap_or}
use Rattle.std.specs.Option.{option_to_list}
use Rattle.std.proofs.lemmas.List.{append-nil, nil_from_length, reverse-append}
use Rattle.std.proofs.lemmas.List.{drop_all, take-append-le, take-take}
use Rattle.tomex_loops.specs.declared.coming.Move.TheVariants.{Call, Return}
use Rattle.tomex_loops.specs.Calls.{Calls, moved}
use Rattle.tomex_loops.specs.Ways.{AreBases, around_in, calls_in}

abbrev pub both : {X : Type 0} → List X → List (List X) → Calls X
both here around = record { here = here; around = around }

pub same_calls : {X : Type 0} (a b : List X) (c d : List (List X)) → a ≡ b → c ≡ d → both a c ≡ both b d
same_calls a b c d here around = ap (λ (xs : List _). both xs c) here ∙ ap (λ (ys : List (List _)). both b ys) around

module _ {X : Type 0} (order : List X → List X) (nil : order [] ≡ []) where
  pub called : (base : ℕ) (bases : List ℕ) (xs : List X)
      → calls_in order (length xs) (base ∷ bases) xs ≡ moved Call (calls_in order base bases xs)
  called base bases xs = same_calls (order (drop (length xs) xs)) []
      (around_in order (base ∷ bases) (take (length xs) xs)) (around_in order (base ∷ bases) xs)
      (ap order (drop_all (length xs) xs (omega arith)) ∙ nil)
      (ap (λ (ys : List X). around_in order (base ∷ bases) ys) (take_all (length xs) xs (omega arith)))

  pub returned : (base b : ℕ) (bases : List ℕ) (xs : List X)
      → calls_in order b bases (take base xs) ≡ moved Return (calls_in order base (b ∷ bases) xs)
  returned base b bases xs = refl

  pub returned_out : (base : ℕ) (xs : List X)
      → calls_in order (length (take base xs)) [] (take base xs) ≡ moved Return (calls_in order base [] xs)
  returned_out base xs = same_calls (order (drop (length (take base xs)) (take base xs))) [] [] []
      (ap order (drop_all (length (take base xs)) (take base xs) (omega arith)) ∙ nil) refl

  -- one more in the latest call
  pub around_more : (base : ℕ) (bases : List ℕ) (xs ys : List X) → base ≤ length xs
      → around_in order bases (take base (xs ++ ys)) ≡ around_in order bases (take base xs)
  around_more base bases xs ys h = ap (λ (zs : List X). around_in order bases zs) (take-append-le base xs ys h)

  -- fewer in the latest call
  pub around_fewer : (base k : ℕ) (bases : List ℕ) (xs : List X) → base ≤ k
      → around_in order bases (take base (take k xs)) ≡ around_in order bases (take base xs)
  around_fewer base k bases xs h = ap (λ (zs : List X). around_in order bases zs) (take-take base k xs h)

-- a list that nothing was taken from was empty
pub none_left : (v w : ℕ) (rest : List ℕ) (popped : Option ℕ)
    → MatchOption popped ((v ≡ 0) × (w ≡ 0)) (λ _. w + 1 ≡ v) → w ≡ length rest
    → MatchOption popped (length rest ≡ 0) (λ _. Unit {0})
none_left v w rest None cases many = omega (arith, cases.1, many)
none_left v w rest (Some b) cases many = tt

-- back from a call, of which the last base is taken
pub returned_by : {X : Type 0} (order : List X → List X) → order [] ≡ [] → (xs : List X) (base new_base n : ℕ)
    (bases rest : List ℕ) (popped : Option ℕ) → bases ≡ rest ++ option_to_list popped
    → MatchOption popped (length rest ≡ 0) (λ _. Unit {0}) → new_base ≡ unwrap_or popped n → n ≡ length (take base xs)
    → calls_in order new_base (reverse rest) (take base xs) ≡ moved Return (calls_in order base (reverse bases) xs)
returned_by order nil xs base new_base n bases rest (Some b) split _ new many =
    let turned : reverse bases ≡ b ∷ reverse rest =
    ap (λ (ys : List ℕ). reverse ys) split ∙ reverse-append rest (b ∷ []) in
    rw (new, turned) refl
returned_by order nil xs base new_base n bases rest None split none new many =
    let empty : rest ≡ [] = nil_from_length rest none in
    let all : bases ≡ [] = split ∙ append-nil rest ∙ empty in
    rw (new, many, empty, all) (returned_out order nil base xs)

-- where the calls' own begins after that
pub returned_bases : (base new_base n : ℕ) (bases rest : List ℕ) (popped : Option ℕ)
    → bases ≡ rest ++ option_to_list popped
    → MatchOption popped (length rest ≡ 0) (λ _. Unit {0}) → new_base ≡ unwrap_or popped n → n ≡ base
    → AreBases base (reverse bases) → (new_base ≤ base) × AreBases new_base (reverse rest)
returned_bases base new_base n bases rest (Some b) split _ new many are =
    let turned : reverse bases ≡ b ∷ reverse rest =
    ap (λ (ys : List ℕ). reverse ys) split ∙ reverse-append rest (b ∷ []) in
    let these : AreBases base (b ∷ reverse rest) = subst (λ (ys : List ℕ). AreBases base ys) turned are in
    rw new these
returned_bases base new_base n bases rest None split none new many are =
    let empty : rest ≡ [] = nil_from_length rest none in
    (omega (arith, new, many), rw empty tt)
