-- A place that is found in a list is inside it, and what is found stands there.
use Rattle.std.proofs.Common.{◌≡◌, ◌<◌, ◌≤◌, ◌∙◌, ap, arith, ℕ, zero, suc, Bool, true, false, cond, List, [], ◌∷◌}
use Rattle.std.proofs.Common.{length, Option, Some, None}
use Rattle.std.proofs.Common.{refl, sym}
use Rattle.std.specs.Prelude.{IfSome, is_some, nat_lt, slice_get}
use Rattle.std.specs.List.{find, position, position_or_len}
use Rattle.std.proofs.lemmas.Bool.{leb-true}
use Rattle.std.proofs.lemmas.List.Folds.{find_at}
use Rattle.std.proofs.lemmas.Option.{slice_get_past}

there_within : {X : Type 0} (xs : List X) (n : ℕ) → n < length xs → is_some (slice_get xs n) ≡ true
there_within [] n less = absurd (omega (arith, less))
there_within (x ∷ xs) zero less = refl
there_within (x ∷ xs) (suc n) less = there_within xs n (omega (arith, less))

module _ {X : Type 0} (p : X → Bool) (xs : List X) where
  pub place_inside : (n : ℕ) → position p xs ≡ Some n → n < length xs
  place_inside n is = go (nat_lt (position_or_len p xs) (length xs)) refl is
    where
      go : (b : Bool) → nat_lt (position_or_len p xs) (length xs) ≡ b
          → cond b (Some (position_or_len p xs)) None ≡ Some n → n < length xs
      go true less e =
          let k : position_or_len p xs ≡ n = cc in
          let low : position_or_len p xs < length xs = leb-true _ _ less in
          omega (arith, low, k)
      go false less e = absurd (cc)

  pub found_inside : (place : Option ℕ) → place ≡ position p xs → IfSome place (λ n. n < length xs)
  found_inside None is = tt
  found_inside (Some n) is = place_inside n (sym is)

  -- what is found stands at the first place
  pub found_at : (n : ℕ) → position p xs ≡ Some n → find p xs ≡ slice_get xs n
  found_at n is = find_at p xs ∙ ap (λ (k : ℕ). slice_get xs k) (go (nat_lt (position_or_len p xs) (length xs)) is)
    where
      go : (b : Bool) → cond b (Some (position_or_len p xs)) None ≡ Some n → position_or_len p xs ≡ n
      go true e = cc
      go false e = absurd (cc)

  -- if there is no place, none is found
  pub none_found : position p xs ≡ None → find p xs ≡ None
  none_found is =
      find_at p xs ∙ slice_get_past xs (position_or_len p xs)
      (go (nat_lt (position_or_len p xs) (length xs)) refl is)
    where
      go : (b : Bool) → nat_lt (position_or_len p xs) (length xs) ≡ b
          → cond b (Some (position_or_len p xs)) None ≡ None → length xs ≤ position_or_len p xs
      go true less e = absurd (cc)
      go false less e = grind (arith)

  -- there is a place if one is found
  there_if_found : (place : Option ℕ) → position p xs ≡ place → is_some place ≡ is_some (find p xs)
  there_if_found None is = ap is_some (sym (none_found is))
  there_if_found (Some n) is =
      sym (ap is_some (found_at n is) ∙ there_within xs n (place_inside n is))

  pub there_with_found : is_some (position p xs) ≡ is_some (find p xs)
  there_with_found = there_if_found (position p xs) refl
