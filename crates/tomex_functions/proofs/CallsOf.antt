-- The calls of a name's functions are the calls among the steps of that name: a call is a step of the run, so its
-- function has a row.
use Rattle.std.proofs.Common.{◌≡◌, ◌∙◌, arith, refl, sym, ap, ℕ, ◌+◌, ◌==◌, ◌||◌, Bool, true, false, cond}
use Rattle.std.proofs.Common.{List, [], ◌∷◌, Option, Some, None, eqb-true, length, map}
use Rattle.std.specs.Prelude.{count_by, option_map, sum_by}
use Rattle.std.specs.List.{filter, list_any}
use Rattle.std.proofs.Math.Bool.{or-true}
use Rattle.std.proofs.lemmas.Bool.{eq-eqb}
use Rattle.std.proofs.lemmas.List.Sorted.{sum_by-IsPermutation}
use Rattle.std.proofs.lemmas.List.Sums.{sum_by-append, sum_by-cons}
use Rattle.tomex_rvexec.specs.declared.step.Step.{Step}
use Rattle.tomex_config.specs.Configuration.{Configuration}
use Rattle.tomex_timing.proofs.Histories.{length-times_in}
use Rattle.tomex_timing.proofs.WaitLists.{length-waits_in}
use Rattle.tomex_timing.specs.Needs.{waits_in}
use Rattle.tomex_timing.specs.Search.{times_in}
use Rattle.tomex_timing.specs.declared.need.Waits.{Waits}
use Rattle.tomex_timing.specs.declared.times.Times.{Times}
use Rattle.tomex_symbols.specs.declared.symbol.Symbol.{Symbol}
use Rattle.tomex_symbols.specs.Functions.{AreNumbered}
use Rattle.tomex_run_views.specs.ByPlace.{Visit, visits_after, visits_in, visits_of, waits_of_all}
use Rattle.tomex_run_views.proofs.SumsOfPlaces.{by_keys}
use Rattle.tomex_functions.specs.ByFunction.{AreRows, rows_at, rows_of_visits}
use Rattle.tomex_functions.specs.Calls.{calls_after, calls_in, calls_of, is_call}
use Rattle.tomex_functions.specs.Functions.{function_key}
use Rattle.tomex_functions.specs.ShownNames.{shown_function}
use Rattle.tomex_functions.specs.declared.rows.Row.{Row}
use Rattle.tomex_functions.specs.Shares.{same_name}
use Rattle.tomex_functions.proofs.Listed.{sum_of_map}
use Rattle.tomex_functions.proofs.OfSteps.{first_passes, has_row, has_step, kept_sum, same_function, uniform}

-- a step that passes a test is among the run's steps if it is among the calls
among : (p : Step → Bool) (symbols : List Symbol) (before : Option Step) (steps : List Step)
    → list_any p (calls_after symbols before steps) ≡ true → list_any p steps ≡ true
among p symbols before [] there = there
among p symbols before (s ∷ steps) there =
    go (among p symbols (Some s) steps) (is_call symbols before s) (p s) there refl
  where
    go : (list_any p (calls_after symbols (Some s) steps) ≡ true → list_any p steps ≡ true) → (b c : Bool)
        → list_any p (cond b (s ∷ calls_after symbols (Some s) steps) (calls_after symbols (Some s) steps)) ≡ true
        → p s ≡ c → list_any p (s ∷ steps) ≡ true
    go rest b true there e = rw e refl
    go rest true false there e = rw e (rest (rw e at there))
    go rest false false there e = rw e (rest there)

-- and so it is among the visits
visited : (p : Step → Bool) (issue : ℕ) (ss : List Step) (ts : List Times) (ws : List Waits) → length ts ≡ length ss
    → length ws ≡ length ss → list_any p ss ≡ list_any (λ v. p v.step) (visits_after issue ss ts ws)
visited p issue [] ts ws a b = refl
visited p issue (s ∷ ss) [] ws a b = absurd (omega (arith, a))
visited p issue (s ∷ ss) (t ∷ ts) [] a b = absurd (omega (arith, b))
visited p issue (s ∷ ss) (t ∷ ts) (w ∷ ws) a b =
    ap (λ (x : Bool). p s || x) (visited p t.issue ss ts ws (omega (arith, a)) (omega (arith, b)))

nothing_passes : {X : Type 0} (p : X → Bool) (xs : List X) → filter p xs ≡ [] → list_any p xs ≡ false
nothing_passes p [] e = refl
nothing_passes p (x ∷ xs) e = go (nothing_passes p xs) (p x) refl e
  where
    go : (filter p xs ≡ [] → list_any p xs ≡ false) → (b : Bool) → p x ≡ b → filter p (x ∷ xs) ≡ []
        → list_any p (x ∷ xs) ≡ false
    go rest true s e = let bad = rw s at e in absurd (cc)
    go rest false s e = rw s (rest (rw s at e))

-- calls as visits, each of which counts once
abbrev as_visit : Step → Visit
as_visit s = record { step = s; cycles = 0; waits = waits_of_all [] }

abbrev called : List Step → List Visit
called calls = map as_visit calls

any_called : (p : Step → Bool) (ss : List Step) → list_any (λ v. p v.step) (called ss) ≡ list_any p ss
any_called p [] = refl
any_called p (s ∷ ss) = ap (λ (x : Bool). p s || x) (any_called p ss)

count_of : (symbols : List Symbol) (k : ℕ) (calls : List Step)
    → calls_of symbols k calls ≡ sum_by (λ v. 1) (visits_of (function_key symbols) k (called calls))
count_of symbols k calls =
    sym (kept_sum (λ v. 1) (λ v. function_key symbols v.step == k) (called calls)
    ∙ sum_of_map (λ v. cond (function_key symbols v.step == k) 1 0) as_visit calls)

module _ (file : List ℕ) (symbols : List Symbol) (numbered : AreNumbered symbols) (name : Option (List ℕ))
    (calls : List Step) (visits : List Visit) where
  abbrev counts : Visit → ℕ
  counts v = cond (has_step file symbols numbered name v.step) 1 0

  abbrev row_calls : Row → ℕ
  row_calls row = cond (has_row file symbols numbered name row) row.calls 0

  one_row : (k : ℕ) → list_any (λ v. function_key symbols v.step == k) visits ≡ true
      → sum_by row_calls (rows_of_visits symbols calls (visits_of (function_key symbols) k visits))
      ≡ sum_by counts (visits_of (function_key symbols) k (called calls))
  one_row k there = go (visits_of (function_key symbols) k visits) refl
    where
      go : (vs : List Visit) → visits_of (function_key symbols) k visits ≡ vs
          → sum_by row_calls (rows_of_visits symbols calls (visits_of (function_key symbols) k visits))
          ≡ sum_by counts (visits_of (function_key symbols) k (called calls))
      go [] e =
          let none = nothing_passes (λ (v : Visit). function_key symbols v.step == k) visits e in
          let bad : true ≡ false = sym there ∙ none in
          absurd (cc)
      go (v ∷ vs) e =
          let key : function_key symbols v.step ≡ k =
          eqb-true (function_key symbols v.step) k
          (first_passes (λ (u : Visit). function_key symbols u.step == k) visits v vs e) in
          let alike : (s : Step) → function_key symbols s ≡ k
          → has_step file symbols numbered name s ≡ has_step file symbols numbered name v.step =
          λ s there. ap (λ (f : Option Symbol). same_name name (option_map (shown_function file) f))
          (same_function symbols numbered s v.step (there ∙ sym key)) in
          let all = uniform file symbols numbered name (λ v. 1) k (has_step file symbols numbered name v.step) alike
          (called calls) in
          let own = ap (λ (n : ℕ). calls_of symbols n calls) key ∙ count_of symbols k calls in
          rw all (rw e (branch (has_step file symbols numbered name v.step)
          (calls_of symbols (function_key symbols v.step) calls)
          (sum_by (λ v. 1) (visits_of (function_key symbols) k (called calls))) own))
        where
          branch : (b : Bool) (m n : ℕ) → m ≡ n → 0 + cond b m 0 ≡ cond b n 0
          branch true m n same = omega (arith, same)
          branch false m n same = refl

  all_rows : (keys : List ℕ)
      → ((k : ℕ) → list_any (λ p. p == k) keys ≡ true → list_any (λ v. function_key symbols v.step == k) visits ≡ true)
      → sum_by row_calls (rows_at symbols calls visits keys)
      ≡ sum_by (λ k. sum_by counts (visits_of (function_key symbols) k (called calls))) keys
  all_rows [] there = refl
  all_rows (k ∷ keys) there = omega (
    arith,
    sum_by-append row_calls (rows_of_visits symbols calls (visits_of (function_key symbols) k visits))
        (rows_at symbols calls visits keys),
    one_row k (there k (rw (eq-eqb k k refl) refl)),
    all_rows keys (λ j in_rest. there j (rw in_rest (or-true _))),
    sum_by-cons (λ k. sum_by counts (visits_of (function_key symbols) k (called calls))) k keys,
  )

-- the rows of a name have the calls among its steps
pub rows_have_calls : (file : List ℕ) (symbols : List Symbol) (numbered : AreNumbered symbols)
    (name : Option (List ℕ)) (config : Configuration) (steps : List Step) (rows : List Row)
    → AreRows symbols (calls_in symbols steps) (visits_in config steps) rows
    → sum_by (λ row. cond (has_row file symbols numbered name row) row.calls 0) rows
    ≡ count_by (has_step file symbols numbered name) (calls_in symbols steps)
rows_have_calls file symbols numbered name config steps rows those =
    let keys = those.0 in
    let are = those.1 in
    let calls = calls_in symbols steps in
    let visits = visits_in config steps in
    let each : (k : ℕ) → list_any (λ v. function_key symbols v.step == k) (called calls) ≡ true
    → list_any (λ p. p == k) keys ≡ true = λ k there.
    let p : Step → Bool = λ s. function_key symbols s == k in
    are.those k ∙ (sym (visited p 0 steps (times_in config steps) (waits_in config steps)
    (length-times_in config steps) (length-waits_in config steps))
    ∙ among p symbols None steps (sym (any_called p calls) ∙ there)) in
    sum_by-IsPermutation (row_calls file symbols numbered name calls visits) (rows_at symbols calls visits keys) rows
    those.2
    ∙ (all_rows file symbols numbered name calls visits keys (λ k there. sym (are.those k) ∙ there)
    ∙ (by_keys (function_key symbols) (counts file symbols numbered name calls visits) (called calls) keys are.ascending
    each
    ∙ sum_of_map (counts file symbols numbered name calls visits) as_visit calls))
