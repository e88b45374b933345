-- One pass over rows that are sorted by cost, cycles and number keeps their front.
use Rattle.std.proofs.Common.{◌≡◌, ◌≢◌, ◌∙◌, arith, refl, List, [], ◌∷◌, Bool, true, false}
use Rattle.std.proofs.Common.{inl, inr, cond, not, ◌||◌, ◌==◌, get_or, Option, Some, None}
use Rattle.std.specs.List.{AllPairs, filter}
use Rattle.std.specs.List.Sorted.{IsPermutation}
use Rattle.std.proofs.lemmas.Bool.{cases_Bool, false_from_ne_true}
use Rattle.std.proofs.lemmas.Bool.Decides.{nat_tests}
use Rattle.std.proofs.lemmas.List.Elements.{filter_agree}
use Rattle.std.proofs.lemmas.List.Kept.{AllPairs-filter}
use Rattle.std.proofs.lemmas.List.Sorted.{IsPermutation-sym}
use Rattle.std.proofs.lemmas.Map.Keys.{IsDistinct-IsPermutation}
use Rattle.tomex_pareto.specs.declared.front_row.FrontRow.{FrontRow}
use Rattle.tomex_pareto.specs.Front.{dominates, front_of, is_undominated}
use Rattle.tomex_pareto.specs.Pareto.{AreNumbered, ComesBefore}
use Rattle.tomex_pareto.specs.Passing.{IsUpTo, stays_after}
use Rattle.tomex_pareto.proofs.Pareto.{AllOf, Rises, all_from, all_has, apart, beats, has_at, has_moved, kept}
use Rattle.tomex_pareto.proofs.Pareto.{kept_all, kept_only, only_front, pairs_rise, rises_pairs, undominated}

-- the rows that stay, given the last row before them that did
abbrev pub passing : Option FrontRow → List FrontRow → List FrontRow
passing last [] = []
passing last (r ∷ rs) = cond (stays_after last r) (r ∷ passing (Some r) rs) (passing last rs)

-- b comes after a in the order, and is another row
abbrev pub IsFollowed : FrontRow → FrontRow → Type 0
IsFollowed a b = IsUpTo a b × (a.row ≢ b.row)

-- in a chain of tests, one that implies its neighbour adds nothing

absorbed_first : (x y z : Bool) → (x ≡ true → y ≡ true) → not (y || z) ≡ not (x || (y || z))
absorbed_first x y z f = grind (arith, nat_tests)

absorbed_next : (x y z : Bool) → (y ≡ true → x ≡ true) → not (x || z) ≡ not (x || (y || z))
absorbed_next x y z f = grind (arith, nat_tests)

filter_same : (p q : FrontRow → Bool) (rows : List FrontRow) → AllOf (λ s. p s ≡ q s) rows
    → filter p rows ≡ filter q rows
filter_same p q [] same = refl
filter_same p q (r ∷ rs) same = rw (same.0, filter_same p q rs same.1)

none_beats : (r : FrontRow) (rs : List FrontRow) → AllOf (IsFollowed r) rs → AllOf (λ q. dominates q r ≡ false) (r ∷ rs)
none_beats r rs after =
    let rest = all_from (λ q. dominates q r ≡ false) rs
    (λ q h. grind (arith, nat_tests, all_has (IsFollowed r) rs q after h)) in
    (grind (arith, nat_tests), rest)

-- the rows that stay are the undominated ones

passing_some : (b : FrontRow) (rs : List FrontRow) → Rises IsFollowed (b ∷ rs)
    → passing (Some b) rs ≡ filter (is_undominated (b ∷ rs)) rs
passing_some b [] up = refl
passing_some b (r ∷ rs) up = elim (cases_Bool (stays_after (Some b) r)) [
  | inl e ↦
      let free = undominated (b ∷ r ∷ rs) r (grind (arith, nat_tests), none_beats r rs up.1.0) in
      let same = filter_same (is_undominated (r ∷ rs)) (is_undominated (b ∷ r ∷ rs)) rs (all_from _ rs (λ s h.
      let f = all_has (IsFollowed r) rs s up.1.0 h in
      absorbed_first (dominates b s) (dominates r s) _ (λ v. grind (arith, nat_tests)))) in
      rw (e, free, passing_some r rs up.1, same) refl
  | inr e ↦
      let f : IsFollowed b r = up.0.0 in
      let v : dominates b r ≡ true = grind (arith, nat_tests) in
      let same = filter_agree (is_undominated (b ∷ rs)) (is_undominated (b ∷ r ∷ rs))
      (λ s. absorbed_next (dominates b s) (dominates r s) _ (λ w. grind (arith, nat_tests))) rs in
      rw (e, v, passing_some b rs (up.0.1, up.1.1), same) refl
]

passing_all : (rows : List FrontRow) → Rises IsFollowed rows → passing None rows ≡ kept rows
passing_all [] up = refl
passing_all (r ∷ rs) up = rw (undominated (r ∷ rs) r (none_beats r rs up.0), passing_some r rs up) refl

kept_rises : (rows : List FrontRow) → Rises IsFollowed rows → Rises ComesBefore (kept rows)
kept_rises rows up = pairs_rise ComesBefore (kept rows) (λ j k d l m.
    let one = kept_only rows (get_or (kept rows) j d) (has_at (kept rows) j d (omega arith)) in
    let other = kept_only rows (get_or (kept rows) k d) (has_at (kept rows) k d m) in
    let f = AllPairs-filter IsFollowed (is_undominated rows) rows (rises_pairs IsFollowed rows up) j k d l m in
    let e = false_from_ne_true _ (λ e. other.1 (get_or (kept rows) j d) one.0 (beats _ _ e)) in
    grind (arith, nat_tests))

-- of sorted rows with different numbers those that stay are the front, in whatever order the rows were
pub passed : (rows sorted : List FrontRow) → AreNumbered rows → IsPermutation rows sorted → AllPairs IsUpTo sorted
    → passing None sorted ≡ front_of rows
passed rows sorted numbered moved order =
    let back = IsPermutation-sym rows sorted moved in
    let far = rises_pairs (λ a b. a.row ≢ b.row) sorted (apart sorted (IsDistinct-IsPermutation
    (λ a b. a.row == b.row) (λ a b. grind (arith, nat_tests)) rows sorted moved numbered)) in
    let up = pairs_rise IsFollowed sorted (λ j k d l m. (order j k d l m, far j k d l m)) in
    passing_all sorted up
    ∙ only_front rows (kept sorted) (apart rows numbered) (record {
      rises = kept_rises sorted up;
      only = λ r h. let w = kept_only sorted r h in
          (has_moved sorted rows r back w.0, λ q i b. w.1 q (has_moved rows sorted q moved i) b);
      all = λ r h f. kept_all sorted r (has_moved rows sorted r moved h)
          (λ q i b. f q (has_moved sorted rows q back i) b);
    })
