-- Items that pass a test, one item more.
use mathlib.Core.Bool.{beq}
use Rattle.std.proofs.Common.{◌≡◌, ◌∙◌, ℕ, ◌+◌, ◌<◌, ◌≤◌, List, [], ◌∷◌, ◌++◌, ap, append_assoc, cond, drop}
use Rattle.std.proofs.Common.{Bool, true, false, get_or, length, sym}
use Rattle.std.specs.List.{filter}
use Rattle.std.specs.Prelude.{not}
use Rattle.std.proofs.lemmas.Bool.{false≢true}
use Rattle.std.proofs.lemmas.List.{append-nil, at_drop_all, at_drop_more}
use Rattle.tomex_config.specs.Configuration.{Configuration}
use Rattle.tomex_config.specs.declared.part.Part.{Part}
use Rattle.tomex_study.specs.Study.{DesignSpace}
use Rattle.tomex_study.specs.Choices.{has_use, is_used}

module _ {X : Type 0} (p : X → Bool) (xs : List X) (k : ℕ) (x d : X) (before after whole : List X)
    (within : k < length xs) (at : x ≡ get_or xs k d) (so_far : before ++ filter p (drop k xs) ≡ whole) where
  abbrev rest : List X
  rest = filter p (drop (k + 1) xs)

  next : before ++ cond (p x) (x ∷ rest) rest ≡ whole
  next =
      ap (λ (ys : List X). before ++ ys) (ap (λ (y : X). cond (p y) (y ∷ rest) rest) at
      ∙ sym (at_drop_more (filter p) xs k d within)) ∙ so_far

  pub kept : p x ≡ true → after ≡ before ++ x ∷ [] → after ++ filter p (drop (k + 1) xs) ≡ whole
  kept passes grown =
      ap (λ (ys : List X). ys ++ rest) grown ∙ (append_assoc before (x ∷ []) rest
      ∙ (sym (ap (λ (b : Bool). before ++ cond b (x ∷ rest) rest) passes) ∙ next))

  pub dropped : p x ≡ false → after ≡ before → after ++ filter p (drop (k + 1) xs) ≡ whole
  dropped fails same =
      ap (λ (ys : List X). ys ++ rest) same
      ∙ (sym (ap (λ (b : Bool). before ++ cond b (x ∷ rest) rest) fails) ∙ next)

pub all_kept : {X : Type 0} (p : X → Bool) (xs : List X) (k : ℕ) (before whole : List X) → length xs ≤ k
    → before ++ filter p (drop k xs) ≡ whole → before ≡ whole
all_kept p xs k before whole past so_far =
    sym (append-nil before) ∙ (ap (λ ys. before ++ ys) (sym (at_drop_all (filter p) xs k past)) ∙ so_far)

-- a choice that has the use that is asked for, and one that has the other
pub use_asked : (s : DesignSpace) (part : Part) (used result : Bool) (c : Configuration) → result ≡ is_used s part c
    → beq result used ≡ true → has_use s part used c ≡ true
use_asked s part true true c is same = sym is
use_asked s part true false c is same = absurd (false≢true same)
use_asked s part false true c is same = absurd (false≢true same)
use_asked s part false false c is same = ap not (sym is)

pub use_other : (s : DesignSpace) (part : Part) (used result : Bool) (c : Configuration) → result ≡ is_used s part c
    → beq result used ≡ false → has_use s part used c ≡ false
use_other s part true true c is other = absurd (false≢true (sym other))
use_other s part true false c is other = sym is
use_other s part false true c is other = ap not (sym is)
use_other s part false false c is other = absurd (false≢true (sym other))
