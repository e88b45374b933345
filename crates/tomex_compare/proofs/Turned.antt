-- Pairs with the two builds in each other's place.
use Rattle.std.proofs.Common.{◌≡◌, arith, ℕ, ◌*◌, ◌≤◌, false}
use Rattle.std.proofs.Common.{List, Some, nat_lt, slice_get}
use Rattle.std.specs.List.{Contains}
use Rattle.std.proofs.lemmas.Bool.Decides.{nat_tests}
use Rattle.std.proofs.lemmas.Option.{get_or_from_slice_get, slice_get_within}
use Rattle.tomex_compare.specs.GroupTable.{best, worst}
use Rattle.tomex_compare.specs.declared.pairs.Pair.{Pair}
use Rattle.tomex_compare.proofs.ByRatio.{GoesBefore}
use Rattle.tomex_compare.proofs.Ends.{best_is_least, worst_is_greatest}
use Rattle.tomex_compare.proofs.Sorting.{Rises}

abbrev pub turned : Pair → Pair
turned p = record { row = p.row; old = p.new; new = p.old }

there : (ps : List Pair) (k : ℕ) (p : Pair) → slice_get ps k ≡ Some p → Contains ps p
there ps k p is = (k, slice_get_within ps k p is, get_or_from_slice_get ps k p p is)

module _ (ps qs : List Pair) (up : Rises GoesBefore ps) (back : Rises GoesBefore qs)
    (in_qs : (p : Pair) → Contains ps p → Contains qs (turned p))
    (in_ps : (p : Pair) → Contains qs p → Contains ps (turned p)) where
  -- the best ratio is then the inverse of the worst now
  pub best_is_inverse : (b w : Pair) → best qs ≡ Some b → worst ps ≡ Some w → b.new * w.new ≡ b.old * w.old
  best_is_inverse b w first last =
      let p = best_is_least qs back b (turned w) first (in_qs w (there ps _ w last)) in
      let q = worst_is_greatest ps up w (turned b) last (in_ps b (there qs _ b first)) in
      equal b.new b.old w.new w.old p q
    where
      equal : (bn bo wn wo : ℕ) → nat_lt (wo * bo) (bn * wn) ≡ false → nat_lt (wn * bn) (bo * wo) ≡ false
          → bn * wn ≡ bo * wo
      equal bn bo wn wo p q =
          let x : bn * wn ≤ wo * bo = grind (arith, nat_tests) in
          let y : bo * wo ≤ wn * bn = grind (arith, nat_tests) in
          omega (arith, x, y)
