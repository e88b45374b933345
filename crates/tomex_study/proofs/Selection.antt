-- What is found among all programs is found among those that are kept, if the test of what is kept passes there too.
use Rattle.std.proofs.Common.{◌≡◌, ◌≤◌, ◌∙◌, ap, arith, ℕ, Bool, true, false, List, [], ◌∷◌, length, refl}
use Rattle.std.specs.Prelude.{◌||◌, is_some}
use Rattle.std.specs.List.{filter, find}
use Rattle.std.specs.Str.{bytes_eq}
use Rattle.std.proofs.lemmas.List.Elements.{All-filter}
use Rattle.std.proofs.lemmas.List.Sums.{count_by-le-length, length-filter}
use Rattle.tomex_study.specs.Program.{IsProgram}
use Rattle.tomex_study.specs.Selection.{is_one_of, with_only}
use Rattle.tomex_study.specs.Study.{DesignSpace, IsStudy, program_named}

module _ {X : Type 0} (keeps p : X → Bool) (covers : (x : X) → p x ≡ true → keeps x ≡ true) where
  found_first : (x : X) (xs : List X) (passes kept : Bool) → p x ≡ passes → keeps x ≡ kept
      → find p (filter keeps xs) ≡ find p xs → find p (filter keeps (x ∷ xs)) ≡ find p (x ∷ xs)
  found_first x xs true true is stays rest = rw (stays, is) refl
  found_first x xs true false is stays rest = let there : keeps x ≡ true = covers x is in absurd (cc)
  found_first x xs false true is stays rest = rw (stays, is) rest
  found_first x xs false false is stays rest = rw (stays, is) rest

  pub found_among_kept : (xs : List X) → find p (filter keeps xs) ≡ find p xs
  found_among_kept [] = refl
  found_among_kept (x ∷ xs) = found_first x xs (p x) (keeps x) refl refl (found_among_kept xs)

  some_of : (ys : List X) → is_some (find p ys) ≡ true → 1 ≤ length ys
  some_of [] is = absurd (cc)
  some_of (y ∷ ys) is = omega arith

  pub some_kept : (xs : List X) → is_some (find p xs) ≡ true → 1 ≤ length (filter keeps xs)
  some_kept xs is = some_of (filter keeps xs) (ap is_some (found_among_kept xs) ∙ is)

-- there are no more of them
no_more : {X : Type 0} (keeps : X → Bool) (xs : List X) {n : ℕ} → length xs ≤ n → length (filter keeps xs) ≤ n
no_more keeps xs few =
    let same = length-filter keeps xs in
    let fewer = count_by-le-length keeps xs in
    omega (arith, same, fewer, few)

-- either of two tests passes where one of them does
passes_first : (a b : Bool) → a ≡ true → (a || b) ≡ true
passes_first true b is = refl
passes_first false b is = absurd (cc)

passes_second : (a b : Bool) → b ≡ true → (a || b) ≡ true
passes_second true b is = refl
passes_second false b is = is

pub found_by_first : {X : Type 0} (p q : X → Bool) (xs : List X) → find p (filter (λ x. p x || q x) xs) ≡ find p xs
found_by_first p q xs = found_among_kept (λ x. p x || q x) p (λ x is. passes_first (p x) (q x) is) xs

pub found_by_second : {X : Type 0} (p q : X → Bool) (xs : List X) → find q (filter (λ x. p x || q x) xs) ≡ find q xs
found_by_second p q xs = found_among_kept (λ x. p x || q x) q (λ x is. passes_second (p x) (q x) is) xs

-- the study with those of its programs is a study, if one of them is there
pub selected : (one other : List ℕ) (s : DesignSpace) → IsStudy s
    → is_some (program_named one s.programs) ≡ true → IsStudy (with_only one other s)
selected one other s is there = record {
  some_programs = some_kept (is_one_of one other) (λ p. bytes_eq p.name one)
      (λ p named. passes_first (bytes_eq p.name one) (bytes_eq p.name other) named) s.programs there;
  few_programs = no_more (is_one_of one other) s.programs is.few_programs;
  ends = All-filter (is_one_of one other) IsProgram s.programs is.ends;
  some_rows = is.some_rows;
  few_rows = is.few_rows;
  limits = is.limits;
  prices = is.prices;
  costs = is.costs;
}
