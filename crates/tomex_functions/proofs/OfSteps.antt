-- What the functions of a name take is what their steps take: the steps of one function have one name.
use Rattle.std.proofs.Common.{◌≡◌, ◌∙◌, arith, refl, sym, ap, ℕ, ◌+◌, ◌==◌, Bool, true, false, cond, eqb-true}
use Rattle.std.proofs.Common.{List, [], ◌∷◌, Option, Some, None}
use Rattle.std.specs.Prelude.{filter, option_map, sum_by}
use Rattle.std.specs.List.{Contains}
use Rattle.std.proofs.lemmas.List.Sorted.{sum_by-IsPermutation}
use Rattle.std.proofs.lemmas.List.Sums.{sum_by-append, sum_by-cons}
use Rattle.tomex_rvexec.specs.declared.step.Step.{Step}
use Rattle.tomex_symbols.specs.declared.symbol.Symbol.{Symbol}
use Rattle.tomex_symbols.specs.Functions.{AreNumbered, best, function_at, holds, or_else, reaches}
use Rattle.tomex_symbols.proofs.Best.{IsBest, best_is, same_symbol}
use Rattle.tomex_run_views.specs.ByPlace.{Visit, visits_of}
use Rattle.tomex_run_views.specs.Tally.{sum_of}
use Rattle.tomex_run_views.specs.declared.tally.Sum.{Sum}
use Rattle.tomex_run_views.proofs.SumsOfPlaces.{by_keys}
use Rattle.tomex_functions.specs.ByFunction.{AreRows, rows_at, rows_of_visits}
use Rattle.tomex_functions.specs.Functions.{function_key, function_of, key_of}
use Rattle.tomex_functions.specs.Laws.{Sums}
use Rattle.tomex_functions.specs.ShownNames.{shown_function}
use Rattle.tomex_functions.specs.declared.rows.Row.{Row}
use Rattle.tomex_functions.specs.Shares.{same_name}

-- the function of an address is one of the symbols
chosen_is : (p : Symbol → Bool) (symbols : List Symbol) (o : Option Symbol) (s : Symbol) → IsBest p symbols o
    → o ≡ Some s → Contains symbols s
chosen_is p symbols None s is e = absurd (cc)
chosen_is p symbols (Some t) s is e =
    let same : t ≡ s = cc in
    rw (sym same) is.one

is_symbol : (symbols : List Symbol) (pc : ℕ) (s : Symbol) → function_at symbols pc ≡ Some s → Contains symbols s
is_symbol symbols pc s e =
    go (best (holds pc) symbols) (best (reaches symbols pc) symbols) (best_is (holds pc) symbols)
    (best_is (reaches symbols pc) symbols) e
  where
    go : (a b : Option Symbol) → IsBest (holds pc) symbols a → IsBest (reaches symbols pc) symbols b
        → or_else a b ≡ Some s → Contains symbols s
    go (Some t) b is_a is_b e = chosen_is (holds pc) symbols (Some t) s is_a e
    go None b is_a is_b e = chosen_is (reaches symbols pc) symbols b s is_b e

-- steps with one key have one function
pub same_function : (symbols : List Symbol) → AreNumbered symbols → (s t : Step)
    → function_key symbols s ≡ function_key symbols t → function_of symbols s ≡ function_of symbols t
same_function symbols numbered s t keys =
    go (function_of symbols s) (function_of symbols t) (is_symbol symbols s.pc) (is_symbol symbols t.pc) keys
  where
    go : (a b : Option Symbol) → ((x : Symbol) → a ≡ Some x → Contains symbols x)
        → ((y : Symbol) → b ≡ Some y → Contains symbols y) → key_of a ≡ key_of b → a ≡ b
    go None None in_a in_b e = refl
    go None (Some y) in_a in_b e = absurd (omega (arith, e))
    go (Some x) None in_a in_b e = absurd (omega (arith, e))
    go (Some x) (Some y) in_a in_b e =
        ap (λ (z : Symbol). Some z)
        (same_symbol symbols x y numbered (in_a x refl) (in_b y refl) (omega (arith, e)))

-- a sum over what passes a test
pub kept_sum : {X : Type 0} (f : X → ℕ) (p : X → Bool) (xs : List X)
    → sum_by f (filter p xs) ≡ sum_by (λ x. cond (p x) (f x) 0) xs
kept_sum f p [] = refl
kept_sum f p (x ∷ xs) = go (kept_sum f p xs) (p x) refl
  where
    go : sum_by f (filter p xs) ≡ sum_by (λ x. cond (p x) (f x) 0) xs → (b : Bool) → p x ≡ b
        → sum_by f (filter p (x ∷ xs)) ≡ sum_by (λ x. cond (p x) (f x) 0) (x ∷ xs)
    go rest true e =
        rw (sum_by-cons (λ x. cond (p x) (f x) 0) x xs, e) (omega (arith, sum_by-cons f x (filter p xs), rest))
    go rest false e = rw (sum_by-cons (λ x. cond (p x) (f x) 0) x xs, e) (omega (arith, rest))

pub first_passes : {X : Type 0} (p : X → Bool) (xs : List X) (y : X) (ys : List X) → filter p xs ≡ y ∷ ys → p y ≡ true
first_passes p [] y ys e = absurd (cc)
first_passes p (x ∷ xs) y ys e = go (first_passes p xs y ys) (p x) refl e
  where
    go : (filter p xs ≡ y ∷ ys → p y ≡ true) → (b : Bool) → p x ≡ b → filter p (x ∷ xs) ≡ y ∷ ys → p y ≡ true
    go rest true s e =
        let f = rw s at e in
        let same : x ≡ y = cc in
        rw (sym same) s
    go rest false s e = rest (rw s at e)

module _ (file : List ℕ) (symbols : List Symbol) (numbered : AreNumbered symbols) (name : Option (List ℕ)) where
  abbrev pub has_step : Step → Bool
  has_step s = same_name name (option_map (shown_function file) (function_of symbols s))

  abbrev pub has_row : Row → Bool
  has_row row = same_name name (option_map (shown_function file) row.function)

  -- steps with one key are all of the name, or none is
  pub uniform : (value : Visit → ℕ) (k : ℕ) (b : Bool)
      → ((s : Step) → function_key symbols s ≡ k → has_step s ≡ b) → (visits : List Visit)
      → sum_by (λ v. cond (has_step v.step) (value v) 0) (visits_of (function_key symbols) k visits)
      ≡ cond b (sum_by value (visits_of (function_key symbols) k visits)) 0
  uniform value k true alike [] = refl
  uniform value k false alike [] = refl
  uniform value k b alike (v ∷ visits) =
      go b (function_key symbols v.step == k) refl (alike v.step) (uniform value k b alike visits)
    where
      own : List Visit
      own = visits_of (function_key symbols) k visits

      go : (b c : Bool) → (function_key symbols v.step == k) ≡ c
          → (function_key symbols v.step ≡ k → has_step v.step ≡ b)
          → sum_by (λ v. cond (has_step v.step) (value v) 0) (visits_of (function_key symbols) k visits)
          ≡ cond b (sum_by value (visits_of (function_key symbols) k visits)) 0
          → sum_by (λ v. cond (has_step v.step) (value v) 0) (visits_of (function_key symbols) k (v ∷ visits))
          ≡ cond b (sum_by value (visits_of (function_key symbols) k (v ∷ visits))) 0
      go b false e here rest = rw e rest
      go true true e here rest =
          rw (
            e,
            sum_by-cons (λ v. cond (has_step v.step) (value v) 0) v
                (visits_of (function_key symbols) k visits),
            here (eqb-true (function_key symbols v.step) k e),
          )
          (omega (arith, rest, sum_by-cons value v (visits_of (function_key symbols) k visits)))
      go false true e here rest =
          rw (
            e,
            sum_by-cons (λ v. cond (has_step v.step) (value v) 0) v
                (visits_of (function_key symbols) k visits),
            here (eqb-true (function_key symbols v.step) k e),
          )
          (omega (arith, rest))

  module _ (column : Sum → ℕ) (value : Visit → ℕ) (is : Sums column value) (calls : List Step) (visits : List Visit)
    where
      one_row : (k : ℕ) → sum_by (λ row. cond (has_row row) (column row.sum) 0)
          (rows_of_visits symbols calls (visits_of (function_key symbols) k visits))
          ≡ sum_by (λ v. cond (has_step v.step) (value v) 0) (visits_of (function_key symbols) k visits)
      one_row k = go (visits_of (function_key symbols) k visits) refl
        where
          go : (vs : List Visit) → visits_of (function_key symbols) k visits ≡ vs
              → sum_by (λ row. cond (has_row row) (column row.sum) 0)
              (rows_of_visits symbols calls (visits_of (function_key symbols) k visits))
              ≡ sum_by (λ v. cond (has_step v.step) (value v) 0) (visits_of (function_key symbols) k visits)
          go [] e = rw e refl
          go (v ∷ vs) e =
              let key : function_key symbols v.step ≡ k =
              eqb-true (function_key symbols v.step) k
              (first_passes (λ (u : Visit). function_key symbols u.step == k) visits v vs e) in
              let alike : (s : Step) → function_key symbols s ≡ k → has_step s ≡ has_step v.step =
              λ s there. ap (λ (f : Option Symbol). same_name name (option_map (shown_function file) f))
              (same_function symbols numbered s v.step (there ∙ sym key)) in
              let all = uniform value k (has_step v.step) alike visits in
              rw all (rw e (branch (has_step v.step) (column (sum_of (v ∷ vs))) (sum_by value (v ∷ vs)) (is (v ∷ vs))))
            where
              branch : (b : Bool) (m n : ℕ) → m ≡ n → 0 + cond b m 0 ≡ cond b n 0
              branch true m n same = omega (arith, same)
              branch false m n same = refl

      all_rows : (keys : List ℕ) → sum_by (λ row. cond (has_row row) (column row.sum) 0)
          (rows_at symbols calls visits keys)
          ≡ sum_by (λ k. sum_by (λ v. cond (has_step v.step) (value v) 0) (visits_of (function_key symbols) k visits))
          keys
      all_rows [] = refl
      all_rows (k ∷ keys) = omega (
        arith,
        sum_by-append (λ (row : Row). cond (has_row row) (column row.sum) 0)
            (rows_of_visits symbols calls (visits_of (function_key symbols) k visits))
            (rows_at symbols calls visits keys),
        one_row k,
        all_rows keys,
        sum_by-cons (λ k. sum_by (λ v. cond (has_step v.step) (value v) 0) (visits_of (function_key symbols) k visits))
            k keys,
      )

      -- what the rows of a name have is what the steps of that name have
      pub rows_have_steps : (rows : List Row) → AreRows symbols calls visits rows
          → sum_by (λ row. cond (has_row row) (column row.sum) 0) rows
          ≡ sum_by value (filter (λ v. has_step v.step) visits)
      rows_have_steps rows those =
          let keys = those.0 in
          let are = those.1 in
          sum_by-IsPermutation (λ row. cond (has_row row) (column row.sum) 0) (rows_at symbols calls visits keys) rows
          those.2
          ∙ (all_rows keys
          ∙ (by_keys (function_key symbols) (λ v. cond (has_step v.step) (value v) 0) visits keys are.ascending
          (λ k there. are.those k ∙ there)
          ∙ sym (kept_sum value (λ v. has_step v.step) visits)))
