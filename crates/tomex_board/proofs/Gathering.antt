-- The distinct costs gathered, past those that are known to be among them.
use Rattle.std.proofs.Common.{◌≡◌, ℕ, zero, suc, ◌+◌, ◌<◌, ◌≤◌, ◌∙◌, List, [], ◌∷◌, length, drop, get_or, Option}
use Rattle.std.proofs.Common.{Some, None, ap}
use Rattle.std.proofs.Common.{arith, refl, subst, sym}
use Rattle.std.proofs.Common.{false, true, inl, inr}
use Rattle.std.specs.Prelude.{◌==◌, not}
use Rattle.std.specs.Option.{option_eq}
use Rattle.std.proofs.lemmas.Bool.{cases_Bool, eqb-true}
use Rattle.std.specs.Ordering.{nat_cmp}
use Rattle.std.specs.BTreeSet.{insert_key}
use Rattle.std.proofs.Math.ListN.{set, length-set}
use Rattle.std.proofs.lemmas.List.{get_or-set_other, get_or-set_same}
use mathlib.Core.Logic.{dite}
use native.Mathlib.Decide.{ℕ_discrete}
use Rattle.tomex_board.specs.Bands.{distinct_costs, with_costs}
use Rattle.tomex_board.specs.Views.{Has}
use Rattle.tomex_board.proofs.Costs.{all_dropped, next_cost}
use Rattle.tomex_board.proofs.Distinct.{has_inserted, has_still, inserted_again}
use Rattle.tomex_board.proofs.Rising.{Rises, inserted_rises}

-- the costs before a place were gathered, and what is remembered of them is among the rising ones
pub record AreGathered (costs : List ℕ) (place : ℕ) (rising : List ℕ) (latest : List (Option ℕ)) : Type 0 where
  pub rest : with_costs rising (drop place costs) ≡ distinct_costs costs
  pub rises : Rises rising
  pub count : length latest ≡ 64
  pub known : (k c : ℕ) → get_or latest k None ≡ Some c → Has rising c

-- nothing is remembered
abbrev pub AreNone : List (Option ℕ) → Type 0
AreNone [] = Unit {0}
AreNone (None ∷ latest) = AreNone latest
AreNone (Some c ∷ latest) = ⊥

none_at : (latest : List (Option ℕ)) (k : ℕ) → AreNone latest → get_or latest k None ≡ None
none_at [] k none = refl
none_at (None ∷ latest) zero none = refl
none_at (None ∷ latest) (suc k) none = none_at latest k none
none_at (Some c ∷ latest) k none = absurd none

pub none_gathered : (costs : List ℕ) (latest : List (Option ℕ)) → length latest ≡ 64 → AreNone latest
    → AreGathered costs 0 [] latest
none_gathered costs latest count none = record {
  rest = refl;
  rises = tt;
  count = count;
  known = λ k c is. let e : None ≡ Some c = sym (none_at latest k none) ∙ is in absurd (cc);
}

-- one more cost, which isn't remembered
pub one_gathered : (costs : List ℕ) (place slot : ℕ) (rising : List ℕ) (latest : List (Option ℕ))
    → place < length costs → slot < 64 → AreGathered costs place rising latest
    → AreGathered costs (place + 1) (insert_key nat_cmp rising (get_or costs place 0))
    (set latest slot (Some (get_or costs place 0)))
one_gathered costs place slot rising latest low small are =
    let c : ℕ = get_or costs place 0 in
    let count : length latest ≡ 64 = are.count in
    record {
      rest = ap (λ (l : List ℕ). with_costs rising l) (sym (next_cost costs place low)) ∙ are.rest;
      rises = inserted_rises rising c are.rises;
      count = length-set latest slot (Some c) ∙ count;
      known = λ k d is. dite (ℕ_discrete k slot)
          (λ e. let here : get_or (set latest slot (Some c)) slot None ≡ Some c =
          get_or-set_same latest slot (Some c) None (omega arith) in
          let there : get_or (set latest slot (Some c)) slot None ≡ Some d =
          subst (λ (n : ℕ). get_or (set latest slot (Some c)) n None ≡ Some d) e is in
          let two : Some c ≡ Some d = sym here ∙ there in
          let same : c ≡ d = cc in
          subst (λ (n : ℕ). Has (insert_key nat_cmp rising c) n) same (has_inserted rising c))
          (λ ne. has_still rising c d
          (are.known k d (sym (get_or-set_other latest slot k (Some c) None ne) ∙ is)));
    }

-- what is remembered at a place is this cost
pub is_remembered : (o : Option ℕ) (c : ℕ) → false ≡ not (option_eq (λ m n. m == n) o (Some c)) → o ≡ Some c
is_remembered None c e = absurd (cc)
is_remembered (Some d) c e = elim (cases_Bool (d == c)) [
  | inl same ↦ ap (λ (n : ℕ). Some n) (eqb-true d c same)
  | inr other ↦ let f : false ≡ true = rw other at e in absurd (cc)
]

-- one more cost, which is
pub one_known : (costs : List ℕ) (place slot : ℕ) (rising : List ℕ) (latest : List (Option ℕ)) → place < length costs
    → get_or latest slot None ≡ Some (get_or costs place 0) → AreGathered costs place rising latest
    → AreGathered costs (place + 1) rising latest
one_known costs place slot rising latest low is are =
    let c : ℕ = get_or costs place 0 in
    record {
      rest = ap (λ (l : List ℕ). with_costs l (drop (place + 1) costs))
          (sym (inserted_again rising c are.rises (are.known slot c is)))
          ∙ ap (λ (l : List ℕ). with_costs rising l) (sym (next_cost costs place low))
          ∙ are.rest;
      rises = are.rises;
      count = are.count;
      known = are.known;
    }

pub all_gathered : (costs : List ℕ) (place : ℕ) (rising : List ℕ) (latest : List (Option ℕ)) → length costs ≤ place
    → AreGathered costs place rising latest → rising ≡ distinct_costs costs
all_gathered costs place rising latest past are =
    ap (λ (l : List ℕ). with_costs rising l) (sym (all_dropped costs place past)) ∙ are.rest
