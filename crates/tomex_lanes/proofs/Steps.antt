-- Each step on a deque of rows keeps its rule.
use Rattle.std.proofs.Common.{◌≡◌, ◌≢◌, ℕ, zero, suc, true, false, true≢false, List, [], ◌∷◌, ◌++◌, set, sym, refl, ap}
use Rattle.std.proofs.Common.{◌∙◌, subst, ⊎_elim, append_assoc, All, Contains}
use mathlib.Core.Option.{some, some-ne-none}
use lib.ListN.{get_elem?}
use Rattle.std.proofs.Math.Option.{some-injective}
use Rattle.std.proofs.lemmas.List.{append-nil}
use Rattle.std.proofs.lemmas.List.Elements.{Contains-append_left, Contains-append_right, All-contains_itself}
use Rattle.std.proofs.lemmas.List.Elements.{All-weaker}
use Rattle.crossbeam_deque.specs.Tasks.{Pushes, Takes, Forks}
use Rattle.crossbeam_deque.proofs.Lists.{at_set, at_snoc, set_again}
use Rattle.tomex_lanes.specs.declared.known.Known.{Known}
use Rattle.tomex_lanes.specs.Rule.{known_list, KnowsList, HoldsNeighbours}

alone : (v w u : Known) (port j : ℕ) → get_elem? (v ∷ []) port ≡ some v → get_elem? (set (v ∷ []) port w) j ≡ some u
    → (w ≡ u) × (set (v ∷ []) port w ≡ u ∷ [])
alone v w u zero zero at e = let is = some-injective w u e in (is, ap (λ x. x ∷ []) is)
alone v w u zero (suc j) at e = absurd (some-ne-none u (sym e))
alone v w u (suc port) j at e = absurd (some-ne-none v (sym at))

pub begins : HoldsNeighbours [] (known_list true [] ∷ [])
begins = ([], [], [], refl, first)
  where
    first : (port : ℕ) (v : Known) → get_elem? (known_list true [] ∷ []) port ≡ some v
        → KnowsList [] [] (known_list true [] ∷ []) v
    first zero v e = let is = some-injective (known_list true []) v e in
        (sym (ap (λ (k : Known). k.rows) is), λ _. (refl, ap (λ (k : Known). k ∷ []) is))
    first (suc port) v e = absurd (some-ne-none v (sym e))

pub adds : (port : ℕ) (v : Known) (xs : List ℕ) → v.filling ≡ true
    → Pushes HoldsNeighbours port v xs (λ w. w ≡ known_list v.filling (v.rows ++ xs))
adds port v xs may items views h at =
    let w : Known = known_list v.filling (v.rows ++ xs) in
    let mine = h.4 port v at in
    let end = mine.1 may in
    let rows : h.0 ≡ h.1 ++ items = h.3 ∙ ap (λ l. h.1 ++ items ++ l) end.0 ∙ append-nil (h.1 ++ items) in
    let more : h.0 ++ xs ≡ h.1 ++ (items ++ xs) ++ [] = ap (λ l. l ++ xs) rows ∙ append_assoc h.1 items xs
    ∙ sym (append-nil (h.1 ++ (items ++ xs))) in
    let AtOne : List Known → Type 0 = λ vs. (j : ℕ) (u : Known) → get_elem? (set vs port w) j ≡ some u
    → KnowsList (h.0 ++ xs) [] (set vs port w) u in
    let here : get_elem? (v ∷ []) port ≡ some v = subst (λ vs. get_elem? vs port ≡ some v) end.1 at in
    let one : AtOne (v ∷ []) = λ j u e. let is = alone v w u port j here e in
    (sym (ap (λ (k : Known). k.rows) is.0) ∙ ap (λ l. l ++ xs) mine.0, λ _. (refl, is.1)) in (
      w,
      (h.0 ++ xs, h.1, [], more, subst AtOne (sym end.1) one),
      refl,
    )

pub takes : (port most : ℕ) (v : Known)
    → Takes HoldsNeighbours port v most (λ xs w. (w ≡ v) × All (λ x. Contains v.rows x) xs)
takes port most v xs items views _ _ h at =
    let mine = h.4 port v at in
    let left : h.0 ≡ (h.1 ++ xs) ++ items ++ h.2 = h.3 ∙ ap (λ l. l ++ h.2) (sym (append_assoc h.1 xs items)) in
    let there : (x : ℕ) → Contains xs x → Contains v.rows x =
    λ x c. subst (λ l. Contains l x) (sym (mine.0 ∙ left))
    (Contains-append_left (h.1 ++ xs ++ items) h.2 x
    (Contains-append_left (h.1 ++ xs) items x (Contains-append_right h.1 xs x c))) in (
      v,
      (
        h.0,
        h.1 ++ xs,
        h.2,
        left,
        subst (λ vs. (j : ℕ) (u : Known) → get_elem? vs j ≡ some u → KnowsList h.0 h.2 vs u)
            (sym (set_again views port v at)) h.4,
      ),
      (refl, All-weaker (Contains xs) (λ x. Contains v.rows x) there xs (All-contains_itself xs)),
    )

same_place : (v u : Known) (port j : ℕ) → get_elem? (u ∷ []) port ≡ some v → get_elem? (u ∷ []) j ≡ some u → j ≡ port
same_place v u zero zero at e = refl
same_place v u zero (suc j) at e = absurd (some-ne-none u (sym e))
same_place v u (suc port) j at e = absurd (some-ne-none v (sym at))

-- a pass that may not add knows the list
shut : (rows after : List ℕ) (views : List Known) (v u : Known) → v.rows ≡ rows → known_list false v.rows ≡ u
    → KnowsList rows after views u
shut rows after views v u mine is =
    (sym (ap (λ (k : Known). k.rows) is) ∙ mine, λ p. absurd (true≢false (sym (ap (λ (k : Known). k.filling) is ∙ p))))

pub forks : (port : ℕ) (v : Known) → Forks HoldsNeighbours port v (known_list false v.rows) (known_list false v.rows)
forks port v items views h at =
    let w : Known = known_list false v.rows in
    let mine = h.4 port v at in
    let now : List Known = set views port w ++ w ∷ [] in
    let other : (j : ℕ) (u : Known) → j ≢ port → get_elem? views j ≡ some u → KnowsList h.0 h.2 now u =
    λ j u n e. let k = h.4 j u e in (
      k.0,
      λ p. let one = (k.1 p).1 in
          absurd (n (same_place v u port j (subst (λ vs. get_elem? vs port ≡ some v) one at)
          (subst (λ vs. get_elem? vs j ≡ some u) one e))),
    ) in (
      h.0,
      h.1,
      h.2,
      h.3,
      λ j u e. ⊎_elim (λ old. ⊎_elim (λ x. shut h.0 h.2 now v u mine.0 x.1) (λ x. other j u x.0 x.1)
          (at_set views port j w u old)) (λ is. shut h.0 h.2 now v u mine.0 is) (at_snoc (set views port w) w u j e),
    )
