-- The calls of the rows are all calls: a call is a step of the run, whose function has a row.
use Rattle.std.proofs.Common.{◌≡◌, ◌≢◌, ◌⊎◌, ◌∙◌, arith, ap, refl, sym, inl, inr, ℕ, ◌+◌, ◌==◌, ◌||◌, Bool, true, false}
use Rattle.std.proofs.Common.{cond, length, map, List, [], ◌∷◌, Option, Some, None}
use Rattle.std.specs.Prelude.{sum_by}
use Rattle.std.specs.List.{list_any}
use Rattle.std.proofs.Math.Bool.{or-true}
use Rattle.std.proofs.lemmas.Bool.{eq-eqb}
use Rattle.std.proofs.lemmas.Bool.Decides.{eqb_tells}
use Rattle.std.proofs.lemmas.List.{length-map}
use Rattle.std.proofs.lemmas.List.Recursion.{is_count_by}
use Rattle.std.proofs.lemmas.List.Sorted.{sum_by-IsPermutation}
use Rattle.std.proofs.lemmas.List.Sums.{sum_by-append, sum_by-cons}
use Rattle.tomex_rvexec.specs.declared.step.Step.{Step}
use Rattle.tomex_timing.proofs.Histories.{length-times_in}
use Rattle.tomex_timing.proofs.WaitLists.{length-waits_in}
use Rattle.tomex_timing.specs.Needs.{waits_in}
use Rattle.tomex_timing.specs.Search.{times_in}
use Rattle.tomex_timing.specs.declared.need.Waits.{Waits}
use Rattle.tomex_timing.specs.declared.times.Times.{Times}
use Rattle.tomex_symbols.specs.declared.symbol.Symbol.{Symbol}
use Rattle.tomex_run_views.specs.ByPlace.{Visit, visits_after, visits_in, visits_of, waits_of_all}
use Rattle.tomex_run_views.proofs.SumsOfPlaces.{by_keys, ones}
use Rattle.tomex_functions.specs.ByFunction.{rows_at, rows_of_visits}
use Rattle.tomex_functions.specs.Calls.{calls_after, calls_in, calls_of, is_call}
use Rattle.tomex_functions.specs.Functions.{function_key}
use Rattle.tomex_functions.specs.Laws.{CallsAddUp}
use Rattle.tomex_functions.specs.declared.rows.Row.{Row}

-- what passes among the calls passes among the steps
among : (p : Step → Bool) (symbols : List Symbol) (before : Option Step) (steps : List Step)
    → list_any p (calls_after symbols before steps) ≡ true → list_any p steps ≡ true
among p symbols before [] there = there
among p symbols before (s ∷ steps) there =
    go (among p symbols (Some s) steps) (is_call symbols before s) (p s) there refl
  where
    go : (list_any p (calls_after symbols (Some s) steps) ≡ true → list_any p steps ≡ true) → (b c : Bool)
        → list_any p (cond b (s ∷ calls_after symbols (Some s) steps) (calls_after symbols (Some s) steps)) ≡ true
        → p s ≡ c → list_any p (s ∷ steps) ≡ true
    go rest b true there e = rw e refl
    go rest true false there e = rw e (rest (rw e at there))
    go rest false false there e = rw e (rest there)

-- and among the visits
in_visits : (p : Step → Bool) (issue : ℕ) (ss : List Step) (ts : List Times) (ws : List Waits) → length ts ≡ length ss
    → length ws ≡ length ss → list_any p ss ≡ list_any (λ v. p v.step) (visits_after issue ss ts ws)
in_visits p issue [] ts ws a b = refl
in_visits p issue (s ∷ ss) [] ws a b = absurd (omega (arith, a))
in_visits p issue (s ∷ ss) (t ∷ ts) [] a b = absurd (omega (arith, b))
in_visits p issue (s ∷ ss) (t ∷ ts) (w ∷ ws) a b =
    ap (λ (x : Bool). p s || x) (in_visits p t.issue ss ts ws (omega (arith, a)) (omega (arith, b)))

module _ (symbols : List Symbol) (calls : List Step) where
  -- the row of a key that a visit has
  one_row : (k : ℕ) (visits : List Visit) → list_any (λ v. function_key symbols v.step == k) visits ≡ true
      → sum_by (λ row. row.calls) (rows_of_visits symbols calls (visits_of (function_key symbols) k visits))
      ≡ calls_of symbols k calls
  one_row k [] there = absurd (cc)
  one_row k (v ∷ visits) there = go (eqb_tells (function_key symbols v.step) k) (one_row k visits)
    where
      go : ((function_key symbols v.step == k) ≡ true) × (function_key symbols v.step ≡ k)
          ⊎ ((function_key symbols v.step == k) ≡ false) × (function_key symbols v.step ≢ k)
          → (list_any (λ v. function_key symbols v.step == k) visits ≡ true
          → sum_by (λ row. row.calls) (rows_of_visits symbols calls (visits_of (function_key symbols) k visits))
          ≡ calls_of symbols k calls)
          → sum_by (λ row. row.calls) (rows_of_visits symbols calls (visits_of (function_key symbols) k (v ∷ visits)))
          ≡ calls_of symbols k calls
      go (inl same) rest = rw same.0 (omega (arith, ap (λ (n : ℕ). calls_of symbols n calls) same.1))
      go (inr other) rest = rw other.0 (rest (rw other.0 at there))

  all_rows : (visits : List Visit) (keys : List ℕ)
      → ((k : ℕ) → list_any (λ p. p == k) keys ≡ true → list_any (λ v. function_key symbols v.step == k) visits ≡ true)
      → sum_by (λ row. row.calls) (rows_at symbols calls visits keys) ≡ sum_by (λ k. calls_of symbols k calls) keys
  all_rows visits [] there = refl
  all_rows visits (k ∷ keys) there = omega (
    arith,
    sum_by-append (λ (row : Row). row.calls)
        (rows_of_visits symbols calls (visits_of (function_key symbols) k visits)) (rows_at symbols calls visits keys),
    one_row k visits (there k (rw (eq-eqb k k refl) refl)),
    all_rows visits keys (λ j in_rest. there j (rw in_rest (or-true _))),
    sum_by-cons (λ k. calls_of symbols k calls) k keys,
  )

-- calls as visits, each of which counts once
abbrev as_visit : Step → Visit
as_visit s = record { step = s; cycles = 0; waits = waits_of_all [] }

abbrev ones_at : List Symbol → ℕ → List Step → ℕ
ones_at symbols k calls = sum_by (λ v. 1) (visits_of (function_key symbols) k (map as_visit calls))

one_more : (symbols : List Symbol) (k : ℕ) (s : Step) (calls : List Step) → ones_at symbols k (s ∷ calls)
    ≡ cond (function_key symbols s == k) (1 + ones_at symbols k calls) (ones_at symbols k calls)
one_more symbols k s calls = go (function_key symbols s == k) refl
  where
    go : (b : Bool) → (function_key symbols s == k) ≡ b → ones_at symbols k (s ∷ calls)
        ≡ cond (function_key symbols s == k) (1 + ones_at symbols k calls) (ones_at symbols k calls)
    go true e = rw e (sum_by-cons (λ v. 1) (as_visit s) (visits_of (function_key symbols) k (map as_visit calls)))
    go false e = rw e refl

count_of : (symbols : List Symbol) (k : ℕ) (calls : List Step) → calls_of symbols k calls ≡ ones_at symbols k calls
count_of symbols k calls = sym
    (is_count_by (ones_at symbols k) (λ s. function_key symbols s == k) refl (one_more symbols k) calls)

counts_of : (symbols : List Symbol) (calls : List Step) (keys : List ℕ)
    → sum_by (λ k. calls_of symbols k calls) keys
    ≡ sum_by (λ k. ones_at symbols k calls) keys
counts_of symbols calls [] = refl
counts_of symbols calls (k ∷ keys) = omega (
  arith,
  count_of symbols k calls,
  counts_of symbols calls keys,
  sum_by-cons (λ k. calls_of symbols k calls) k keys,
  sum_by-cons (λ k. ones_at symbols k calls) k keys,
)

any_as_visit : (p : Step → Bool) (ss : List Step) → list_any (λ v. p v.step) (map as_visit ss) ≡ list_any p ss
any_as_visit p [] = refl
any_as_visit p (s ∷ ss) = ap (λ (x : Bool). p s || x) (any_as_visit p ss)

pub calls_add_up : CallsAddUp
calls_add_up symbols config steps rows those =
    let keys = those.0 in
    let are = those.1 in
    let calls = calls_in symbols steps in
    let visits = visits_in config steps in
    let each : (k : ℕ) → list_any (λ v. function_key symbols v.step == k) (map as_visit calls) ≡ true
    → list_any (λ p. p == k) keys ≡ true = λ k there.
    let p : Step → Bool = λ s. function_key symbols s == k in
    are.those k ∙ (sym (in_visits p 0 steps (times_in config steps) (waits_in config steps)
    (length-times_in config steps) (length-waits_in config steps))
    ∙ among p symbols None steps (sym (any_as_visit p calls) ∙ there)) in
    sum_by-IsPermutation (λ row. row.calls) (rows_at symbols calls visits keys) rows those.2
    ∙ (all_rows symbols calls visits keys (λ k there. sym (are.those k) ∙ there)
    ∙ (counts_of symbols calls keys
    ∙ (by_keys (function_key symbols) (λ v. 1) (map as_visit calls) keys are.ascending each
    ∙ (sym (ones (map as_visit calls)) ∙ length-map _ _))))
