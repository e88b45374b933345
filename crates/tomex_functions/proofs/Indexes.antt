-- The functions of a run's addresses, looked up.
use Rattle.std.proofs.Common.{◌≡◌, ◌≢◌, ◌<◌, ◌≤◌, ◌∙◌, ap, arith, inl, inr, sym, ℕ, get_or, length, map, take, ◌+◌}
use Rattle.std.proofs.Common.{◌++◌, ◌∷◌, [], List, None, Option}
use Rattle.std.proofs.Common.{Ok, Err}
use Rattle.std.specs.Prelude.{All, IsPermutation, Result}
use Rattle.std.specs.List.Sorted.{IsBinarySearchResult}
use Rattle.std.specs.Ordering.{nat_cmp}
use Rattle.std.specs.Result.{MatchResult}
use Rattle.std.proofs.lemmas.Bool.{cases_order}
use Rattle.std.proofs.lemmas.List.{get_or-map, get_or_default, length-map, map-append, take_more}
use Rattle.std.proofs.lemmas.List.Sorted.{All-permutation, IsPermutation-sym, searched}
use Rattle.tomex_rvexec.specs.declared.step.Step.{Step}
use Rattle.tomex_symbols.specs.Functions.{function_at}
use Rattle.tomex_symbols.specs.declared.symbol.Symbol.{Symbol}
use Rattle.tomex_run_views.specs.ByPlace.{pc_of}
use Rattle.tomex_functions.specs.declared.index.Index.{Index}
use Rattle.tomex_functions.specs.Functions.{function_of}
use Rattle.tomex_functions.specs.Kept.{HasAddress, IsIndexOf}

-- each step has its address
pub all_addresses : (steps : List Step) → All (λ s. HasAddress s.pc steps) steps
all_addresses steps k d l = (k, l, get_or-map pc_of steps k d 0 l)

pub address_there : (steps : List Step) (i : ℕ) (s : Step) → i < length steps → get_or steps i s ≡ s
    → HasAddress s.pc steps
address_there steps i s l is = (i, l, get_or-map pc_of steps i s 0 l ∙ ap pc_of is)

-- the functions of steps, with one more
pub functions_more : (symbols : List Symbol) (ss : List Step) (i : ℕ) (s : Step) (old new : List (Option Symbol))
    (f : Option Symbol) → i < length ss → get_or ss i s ≡ s → old ≡ map (function_of symbols) (take i ss)
    → f ≡ function_of symbols s → new ≡ old ++ f ∷ [] → new ≡ map (function_of symbols) (take (i + 1) ss)
functions_more symbols ss i s old new f l is so_far own grown =
    rw (grown, so_far, own, take_more ss i s l, is) (sym (map-append (function_of symbols) (take i ss) (s ∷ [])))

-- an address that a step has is one of those that were sorted
not_missing : (pc : ℕ) (steps : List Step) (addresses : List ℕ) → IsPermutation (map pc_of steps) addresses
    → HasAddress pc steps → All (λ x. x ≢ pc) addresses → ⊥
not_missing pc steps addresses those has none =
    let all : All (λ x. x ≢ pc) (map pc_of steps) =
    All-permutation (λ x. x ≢ pc) addresses (map pc_of steps) (IsPermutation-sym (map pc_of steps) addresses those) none
    in all has.0 0 (rw (length-map _ _) has.1) has.2

module _ {A : Type 0} (symbols : List Symbol) (steps : List Step) (index : Index A) (pc : ℕ)
    (is : IsIndexOf symbols steps index) (has : HasAddress pc steps) where
  abbrev pub IsFound : ℕ → Type 0
  IsFound i =
      (i < length index.functions.items) × (get_or index.functions.items i None ≡ function_at symbols pc)

  found : (i : ℕ) → i < length index.addresses.items → get_or index.addresses.items i 0 ≡ pc → IsFound i
  found i l e = (
    rw (is.functions, length-map _ _) l,
    ap (λ (fs : List (Option Symbol)). get_or fs i None) is.functions
        ∙ (get_or-map (function_at symbols) index.addresses.items i 0 None l ∙ ap (function_at symbols) e),
  )

  missed : (i : ℕ) → ((k : ℕ) → k < i → get_or index.addresses.items k 0 < pc)
      → ((k : ℕ) → i ≤ k → k < length index.addresses.items → pc < get_or index.addresses.items k 0) → ⊥
  missed i below above = not_missing pc steps index.addresses.items is.those has
      (λ k d l e. other k (rw (get_or_default index.addresses.items k d 0 l) at e) l)
    where
      other : (k : ℕ) → get_or index.addresses.items k 0 ≡ pc → k < length index.addresses.items → ⊥
      other k e l = elim (cases_order k i) [
        | inl same ↦ absurd (omega (arith, e, above k (omega arith) l))
        | inr (inl less) ↦ absurd (omega (arith, e, below k less))
        | inr (inr more) ↦ absurd (omega (arith, e, above k (omega arith) l))
      ]

  pub looked_up : (r : Result ℕ ℕ) → IsBinarySearchResult (λ y. nat_cmp y pc) index.addresses.items r
      → MatchResult r IsFound (λ i. ⊥)
  looked_up r search = go r
      (searched index.addresses.items pc r search (λ i j a b. is.order i j 0 a b))
    where
      go : (r : Result ℕ ℕ)
          → MatchResult r (λ i. (i < length index.addresses.items) × (get_or index.addresses.items i 0 ≡ pc))
          (λ i. (i ≤ length index.addresses.items) × ((k : ℕ) → k < i → get_or index.addresses.items k 0 < pc)
          × ((k : ℕ) → i ≤ k → k < length index.addresses.items → pc < get_or index.addresses.items k 0))
          → MatchResult r IsFound (λ i. ⊥)
      go (Ok i) h = found i h.0 h.1
      go (Err i) h = missed i h.1 h.2
