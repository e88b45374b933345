-- The places of loops: visits around have lower numbers, loops are among the heads, each head's address is a step's,
-- and what the columns have of each loop.
use Rattle.std.proofs.Common.{ℕ, ◌+◌, ◌<◌, ◌≡◌, ◌∙◌, refl, ap, arith, inl, inr, sym, List, [], ◌∷◌, ◌++◌, Option, None}
use Rattle.std.proofs.Common.{get_or, length, map, take}
use Rattle.std.specs.Prelude.{All, IfSome, slice_index}
use Rattle.std.proofs.lemmas.Bool.{cases_lt}
use Rattle.std.proofs.lemmas.List.{get_or-map, get_or_past, length-map, map-append, take_more}
use Rattle.std.proofs.lemmas.List.Elements.{All-map}
use Rattle.tomex_rvexec.specs.declared.step.Step.{Step}
use Rattle.tomex_run_views.specs.ByPlace.{pc_of}
use Rattle.tomex_functions.specs.Kept.{HasAddress}
use Rattle.tomex_loops.specs.declared.visit.Visit.{Visit}
use Rattle.tomex_loops.specs.Sound.{AreEarlier}
use Rattle.tomex_symbols.specs.declared.symbol.Symbol.{Symbol}
use Rattle.tomex_symbols.specs.Functions.{function_at}
use Rattle.tomex_loop_views.specs.declared.places.Places.{Places}
use Rattle.tomex_loop_sums.specs.ByLoop.{heads_around, loops_of}
use Rattle.tomex_loop_sums.specs.Extents.{IsExtent, is_in_visit_of}
use Rattle.tomex_loop_sums.specs.Groups.{with_key}
use Rattle.tomex_loop_views.specs.PlaceColumns.{ArePlaces}

-- the visit around one, if there is one, has a lower number
pub outer_low : (outer : Visit → Option ℕ) (visits : List Visit) → AreEarlier outer visits → (v : ℕ)
    → IfSome (get_or (map outer visits) v None) (λ u. u < v)
outer_low outer [] early v = tt
outer_low outer (x ∷ visits) early v = elim (cases_lt v (length (x ∷ visits))) [
  | inl l ↦ rw (get_or-map outer (x ∷ visits) v x None l) (early v x l)
  | inr past ↦ rw (get_or_past (map outer (x ∷ visits)) v None
      (omega (arith, past, length-map (x ∷ visits) outer))) tt
]

pub numbers_low : (count : ℕ) (visits : List Visit) → All (λ v. v.number < count) visits
    → All (λ n. n < count) (loops_of visits)
numbers_low count visits all = All-map (λ (n : ℕ). n < count) (λ (v : Visit). v.number) visits all

-- each head's address is a step's
pub heads_have : (steps : List Step) (heads : List ℕ) → All (λ h. h < length steps) heads
    → All (λ pc. HasAddress pc steps) (map (slice_index (map pc_of steps)) heads)
heads_have steps heads all =
    All-map (λ (pc : ℕ). HasAddress pc steps) (slice_index (map pc_of steps)) heads
    (λ k d l. (get_or heads k d, all k d l, refl))

-- one more item of a list
pub map_next : {X Y : Type 0} (f : X → Y) (xs : List X) (i : ℕ) (d : X) (old new : List Y) (y : Y) → i < length xs
    → old ≡ map f (take i xs) → y ≡ f (get_or xs i d) → new ≡ old ++ y ∷ [] → new ≡ map f (take (i + 1) xs)
map_next f xs i d old new y l so_far own grown =
    rw (grown, so_far, own, take_more xs i d l) (sym (map-append f (take i xs) (get_or xs i d ∷ [])))

-- the columns, and what each has of a loop
pub are_places : {A : Type 0} (p : Places A) (symbols : List Symbol) (addresses heads : List ℕ) (visits : List Visit)
    (here : List (Option ℕ)) → p.heads.items ≡ map (slice_index addresses) heads
    → p.functions.items ≡ map (function_at symbols) p.heads.items → length p.extents.items ≡ length heads
    → ((n : ℕ) → n < length heads
    → IsExtent (is_in_visit_of (loops_of visits) (map (λ v. v.within) visits) here n) addresses
    (get_or p.extents.items n None)) → length p.around.items ≡ length heads
    → ((n : ℕ) → n < length heads → get_or (map (λ group. group.items) p.around.items) n []
    ≡ with_key n (loops_of visits) (heads_around addresses heads visits))
    → ArePlaces symbols addresses heads visits here p
are_places p symbols addresses heads visits here at_heads functions many_extents extents many_around around =
    let many : length p.heads.items ≡ length heads =
    ap (λ (xs : List ℕ). length xs) at_heads ∙ length-map heads (slice_index addresses) in
    record {
      heads_count = many;
      functions_count = ap (λ (xs : List (Option Symbol)). length xs) functions
          ∙ length-map p.heads.items (function_at symbols) ∙ many;
      extents_count = many_extents;
      around_count = many_around;
      are = λ n l. record {
        head_is = ap (λ (xs : List ℕ). get_or xs n 0) at_heads ∙ get_or-map (slice_index addresses) heads n 0 0 l;
        function_is = ap (λ (xs : List (Option Symbol)). get_or xs n None) functions
            ∙ get_or-map (function_at symbols) p.heads.items n 0 None (omega (arith, l, many));
        extent_is = extents n l;
        around_is = around n l;
      };
    }
