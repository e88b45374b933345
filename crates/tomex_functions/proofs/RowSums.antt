-- Sums over rows, and over the places of a function.
use Rattle.std.proofs.Common.{◌≡◌, ◌∙◌, arith, refl, ℕ, ◌==◌, Bool, true, false, cond, List, [], ◌∷◌}
use Rattle.std.specs.Prelude.{sum_by}
use Rattle.std.specs.List.{list_any}
use Rattle.std.proofs.lemmas.List.Sorted.{sum_by-IsPermutation}
use Rattle.std.proofs.lemmas.List.Sums.{sum_by-append, sum_by-cons}
use Rattle.tomex_rvexec.specs.declared.step.Step.{Step}
use Rattle.tomex_symbols.specs.declared.symbol.Symbol.{Symbol}
use Rattle.tomex_run_views.specs.ByPlace.{Visit, pc_of, visits_of}
use Rattle.tomex_run_views.specs.declared.tally.Sum.{Sum}
use Rattle.tomex_run_views.proofs.SumsOfPlaces.{by_keys}
use Rattle.tomex_functions.specs.ByFunction.{rows_at, rows_of_visits}
use Rattle.tomex_functions.specs.Functions.{function_key}
use Rattle.tomex_functions.specs.Laws.{PlacesOfFunctionsAddUp, RowsAddUp, Sums}
use Rattle.tomex_functions.specs.declared.rows.Row.{Row}

module _ (column : Sum → ℕ) (value : Visit → ℕ) (is : Sums column value) (symbols : List Symbol) (calls : List Step)
  where
    one_row : (visits : List Visit)
        → sum_by (λ row. column row.sum) (rows_of_visits symbols calls visits) ≡ sum_by value visits
    one_row [] = refl
    one_row (v ∷ visits) = omega (arith, is (v ∷ visits))

    all_rows : (visits : List Visit) (keys : List ℕ)
        → sum_by (λ row. column row.sum) (rows_at symbols calls visits keys)
        ≡ sum_by (λ k. sum_by value (visits_of (function_key symbols) k visits)) keys
    all_rows visits [] = refl
    all_rows visits (k ∷ keys) = omega (
      arith,
      sum_by-append (λ (row : Row). column row.sum)
          (rows_of_visits symbols calls (visits_of (function_key symbols) k visits))
          (rows_at symbols calls visits keys),
      one_row (visits_of (function_key symbols) k visits),
      all_rows visits keys,
      sum_by-cons (λ k. sum_by value (visits_of (function_key symbols) k visits)) k keys,
    )

pub rows_add_up : RowsAddUp
rows_add_up column value symbols calls visits rows is those =
    let keys = those.0 in
    let are = those.1 in
    sum_by-IsPermutation (λ row. column row.sum) (rows_at symbols calls visits keys) rows those.2
    ∙ (all_rows column value is symbols calls visits keys
    ∙ by_keys (function_key symbols) value visits keys are.ascending (λ k there. are.those k ∙ there))

-- at a place of some visits there is one of all of them
any_of_all : (key : Step → ℕ) (k pc : ℕ) (visits : List Visit)
    → list_any (λ v. v.step.pc == pc) (visits_of key k visits) ≡ true → list_any (λ v. v.step.pc == pc) visits ≡ true
any_of_all key k pc [] there = there
any_of_all key k pc (v ∷ visits) there = go (any_of_all key k pc visits) (key v.step == k) (v.step.pc == pc) there refl
  where
    go : (list_any (λ v. v.step.pc == pc) (visits_of key k visits) ≡ true
        → list_any (λ v. v.step.pc == pc) visits ≡ true)
        → (b c : Bool)
        → list_any (λ v. v.step.pc == pc) (cond b (v ∷ visits_of key k visits) (visits_of key k visits)) ≡ true
        → (v.step.pc == pc) ≡ c → list_any (λ v. v.step.pc == pc) (v ∷ visits) ≡ true
    go rest b true there e = rw e refl
    go rest true false there e = rw e (rest (rw e at there))
    go rest false false there e = rw e (rest there)

pub places_add_up : PlacesOfFunctionsAddUp
places_add_up value symbols visits pcs k are =
    by_keys pc_of value (visits_of (function_key symbols) k visits) pcs are.ascending
    (λ pc there. are.those pc ∙ any_of_all (function_key symbols) k pc visits there)
