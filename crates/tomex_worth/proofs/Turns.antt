-- The program at a place, and a column for it.
use Rattle.std.proofs.Common.{◌≡◌, ◌∙◌, ap, refl, subst, ℕ, ◌+◌, ◌<◌, List, [], ◌∷◌, ◌++◌}
use Rattle.std.proofs.Common.{drop, get_or, length, map, Some, slice_get}
use Rattle.std.proofs.lemmas.Option.{slice_get_read}
use Rattle.tomex_layout.proofs.Loops.{item_more}
use Rattle.tomex_study.specs.Program.{Workload}
use Rattle.tomex_study.specs.Study.{DesignSpace}

-- the programs of a survey are those of its study
pub programs_of : (known s : DesignSpace) (items : List Workload) → items ≡ known.programs → known ≡ s
    → items ≡ s.programs
programs_of known s items is same = is ∙ ap (λ (x : DesignSpace). x.programs) same

-- an item of a list that is also known by another name
module _ {X : Type 0} (own items : List X) (k : ℕ) (x : X) (same : items ≡ own) (low : k < length items)
    (at : x ≡ get_or items k x) where
  low_too : k < length own
  low_too = subst (λ (zs : List X). k < length zs) same low

  at_too : x ≡ get_or own k x
  at_too = at ∙ ap (λ (zs : List X). get_or zs k x) same

  pub there_too : slice_get own k ≡ Some x
  there_too = slice_get_read own (length own) k x refl low_too at_too

  pub one_more : {Y : Type 0} (f : X → Y) (y : Y) (before after whole : List Y) → after ≡ before ++ y ∷ [] → y ≡ f x
      → before ++ map f (drop k own) ≡ whole → after ++ map f (drop (k + 1) own) ≡ whole
  one_more f y before after whole grown is so_far =
      item_more f own k x y before after whole low_too grown (is ∙ ap f at_too) so_far
