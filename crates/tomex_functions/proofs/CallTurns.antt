-- The calls of a run's steps, one step more.
use Rattle.std.proofs.Common.{◌≡◌, ◌<◌, ◌≤◌, ◌∙◌, ap, arith, refl, sym, ℕ, zero, suc, add-one, ◌+◌}
use Rattle.std.proofs.Common.{◌-◌, ◌^◌, ◌==◌, eqb-true}
use Rattle.std.proofs.Common.{Bool, true, false, cond, List, [], ◌∷◌, ◌++◌, get_or, length, map, take, Option, Some}
use Rattle.std.proofs.Common.{None}
use Rattle.std.specs.Prelude.{is_some, not, ◌&&◌, ◌||◌, unwrap_or}
use Rattle.std.specs.Ordering.{is_eq, nat_cmp}
use Rattle.std.proofs.lemmas.List.{append-nil, get_or_default, get_or-map, length-map, length-take, length_push}
use Rattle.std.proofs.lemmas.List.Sums.{count_by-le-length, sum_by_push}
use Rattle.tomex_rvexec.specs.Steps.{step_dest}
use Rattle.tomex_rvexec.specs.declared.step.Step.{Step}
use Rattle.tomex_symbols.specs.declared.symbol.Symbol.{Symbol}
use Rattle.tomex_run_views.proofs.Tallies.{same_key}
use Rattle.tomex_functions.specs.Calls.{begins, calls_after, calls_in, calls_of, is_call, is_jump}
use Rattle.tomex_functions.specs.Functions.{function_key, function_of, key_of}
use Rattle.tomex_functions.specs.Kept.{before_at}

calls_more_after : (symbols : List Symbol) (before : Option Step) (ss : List Step) (i : ℕ) (d : Step) → i < length ss
    → calls_after symbols before (take (i + 1) ss)
    ≡ calls_after symbols before (take i ss)
    ++ cond (is_call symbols (before_at before i ss) (get_or ss i d)) (get_or ss i d ∷ []) []
calls_more_after symbols before [] i d l = absurd (omega arith)
calls_more_after symbols before (s ∷ ss) zero d l = refl
calls_more_after symbols before (s ∷ ss) (suc i) d l =
    rw (add-one (suc i)) (go (is_call symbols before s)
    (rw (add-one i) at (calls_more_after symbols (Some s) ss i d (omega arith))))
  where
    go : (b : Bool) → calls_after symbols (Some s) (take (suc i) ss)
        ≡ calls_after symbols (Some s) (take i ss)
        ++ cond (is_call symbols (before_at (Some s) i ss) (get_or ss i d)) (get_or ss i d ∷ []) []
        → cond b (s ∷ calls_after symbols (Some s) (take (suc i) ss)) (calls_after symbols (Some s) (take (suc i) ss))
        ≡ cond b (s ∷ calls_after symbols (Some s) (take i ss)) (calls_after symbols (Some s) (take i ss))
        ++ cond (is_call symbols (before_at (Some s) i ss) (get_or ss i d)) (get_or ss i d ∷ []) []
    go true rest = ap (λ (xs : List Step). s ∷ xs) rest
    go false rest = rest

pub calls_more : (symbols : List Symbol) (ss : List Step) (i : ℕ) (d : Step) → i < length ss
    → is_call symbols (before_at None i ss) (get_or ss i d) ≡ true
    → calls_in symbols (take (i + 1) ss) ≡ calls_in symbols (take i ss) ++ get_or ss i d ∷ []
calls_more symbols ss i d l is = rw is at (calls_more_after symbols None ss i d l)

pub calls_same : (symbols : List Symbol) (ss : List Step) (i : ℕ) (d : Step) → i < length ss
    → is_call symbols (before_at None i ss) (get_or ss i d) ≡ false
    → calls_in symbols (take (i + 1) ss) ≡ calls_in symbols (take i ss)
calls_same symbols ss i d l is =
    rw is at (calls_more_after symbols None ss i d l) ∙ append-nil (calls_in symbols (take i ss))

-- the step before one that isn't the first
pub before_is : (ss : List Step) (i : ℕ) (d : Step) → 0 < i → i < length ss
    → before_at None i ss ≡ Some (get_or ss (i - 1) d)
before_is ss zero d some l = absurd (omega arith)
before_is ss (suc i) d some l = let e : suc i - 1 ≡ i = omega arith in rw e (go None ss i (omega arith))
  where
    go : (before : Option Step) (xs : List Step) (j : ℕ) → suc j < length xs
        → before_at before (suc j) xs ≡ Some (get_or xs j d)
    go before [] j l = absurd (omega arith)
    go before (x ∷ xs) zero l = refl
    go before (x ∷ xs) (suc j) l = go (Some x) xs j (omega arith)

few_calls : (symbols : List Symbol) (before : Option Step) (ss : List Step)
    → length (calls_after symbols before ss) ≤ length ss
few_calls symbols before [] = omega arith
few_calls symbols before (s ∷ ss) = go (is_call symbols before s) (few_calls symbols (Some s) ss)
  where
    go : (b : Bool) → length (calls_after symbols (Some s) ss) ≤ length ss
        → length (cond b (s ∷ calls_after symbols (Some s) ss) (calls_after symbols (Some s) ss)) ≤ suc (length ss)
    go true rest = omega arith
    go false rest = omega arith

pub calls_are_few : (symbols : List Symbol) (ss : List Step) → length (calls_in symbols ss) ≤ length ss
calls_are_few symbols ss = few_calls symbols None ss

pub calls_of_are_few : (symbols : List Symbol) (k : ℕ) (ss : List Step)
    → calls_of symbols k (calls_in symbols ss) ≤ length ss
calls_of_are_few symbols k ss = omega (
  arith,
  count_by-le-length (λ s. function_key symbols s == k) (calls_in symbols ss),
  calls_are_few symbols ss,
)

-- counts of calls fit
pub count_fits : (symbols : List Symbol) (ss : List Step) (i now k : ℕ) → length ss ≤ 262144
    → now ≡ calls_of symbols k (calls_in symbols (take i ss)) → now < 2 ^ 63
count_fits symbols ss i now k few is =
    omega (arith, few, is, calls_of_are_few symbols k (take i ss), length-take i ss)

pub all_fit : (symbols : List Symbol) (ss : List Step) (i now : ℕ) → length ss ≤ 262144
    → now ≡ length (calls_in symbols (take i ss)) → now < 2 ^ 63
all_fit symbols ss i now few is = omega (arith, few, is, calls_are_few symbols (take i ss), length-take i ss)

-- a map's entry with one more
pub entry_more : (at k : ℕ) (got had : Option ℕ) (found : Option ℕ) (now : ℕ)
    → got ≡ cond (is_eq (nat_cmp at k)) (Some (now + 1)) had → (at ≡ k → had ≡ found) → now ≡ unwrap_or found 0
    → unwrap_or got 0 ≡ unwrap_or had 0 + cond (at == k) 1 0
entry_more at k got had found now is there kept = rw (is, same_key at k) (go (at == k) refl)
  where
    go : (b : Bool) → (at == k) ≡ b
        → unwrap_or (cond (at == k) (Some (now + 1)) had) 0 ≡ unwrap_or had 0 + cond (at == k) 1 0
    go true e = rw (e, there (eqb-true at k e)) (omega (arith, kept))
    go false e = rw e (omega arith)

-- the calls of a key, with one more
pub called_more : (symbols : List Symbol) (ss : List Step) (i : ℕ) (s : Step) (f : Option Symbol) (k old new : ℕ)
    → i < length ss → s ≡ get_or ss i s → f ≡ function_of symbols s
    → is_call symbols (before_at None i ss) (get_or ss i s) ≡ true
    → old ≡ calls_of symbols k (calls_in symbols (take i ss)) → new ≡ old + cond (key_of f == k) 1 0
    → new ≡ calls_of symbols k (calls_in symbols (take (i + 1) ss))
called_more symbols ss i s f k old new l step own call was grown =
    let calls = calls_in symbols (take i ss) in
    let more : calls_of symbols k (calls_in symbols (take i ss) ++ get_or ss i s ∷ [])
    ≡ calls_of symbols k (calls_in symbols (take i ss)) + cond (function_key symbols (get_or ss i s) == k) 1 0 =
    sum_by_push (λ (x : Step). cond (function_key symbols x == k) 1 0) calls (get_or ss i s) in
    let same : key_of f ≡ function_key symbols (get_or ss i s) =
    ap key_of own ∙ ap (function_key symbols) step in
    rw (calls_more symbols ss i s l call, more, grown, was, same) refl

pub all_more : (symbols : List Symbol) (ss : List Step) (i : ℕ) (s : Step) (old new : ℕ)
    → i < length ss → is_call symbols (before_at None i ss) (get_or ss i s) ≡ true
    → old ≡ length (calls_in symbols (take i ss)) → new ≡ old + 1
    → new ≡ length (calls_in symbols (take (i + 1) ss))
all_more symbols ss i s old new l call was grown =
    rw (calls_more symbols ss i s l call)
    (omega (arith, was, grown, length_push (calls_in symbols (take i ss)) (get_or ss i s)))

length-of-map : (symbols : List Symbol) (ss : List Step) → length (map (function_of symbols) ss) ≡ length ss
length-of-map symbols ss = length-map _ _

step_there : (ss : List Step) (i : ℕ) → i < length ss → (s : Step) × (s ≡ get_or ss i s)
step_there [] i l = absurd (omega arith)
step_there (x ∷ ss) zero l = (x, refl)
step_there (x ∷ ss) (suc i) l = step_there ss i (omega arith)

-- a turn of the loop over steps and their functions, by whether the step calls its function
module _ (symbols : List Symbol) (ss : List Step) (fs : List (Option Symbol)) (i : ℕ) (b : Bool)
    (are : fs ≡ map (function_of symbols) ss) (within : i < length fs)
    (is : (d : Step) → b ≡ is_call symbols (before_at None i ss) (get_or ss i d)) where
  below : i < length ss
  below = omega (arith, within, ap length are, length-of-map symbols ss)

  s : Step
  s = (step_there ss i below).0

  at : s ≡ get_or ss i s
  unfolding s
  at = (step_there ss i below).1

  own : get_or fs i None ≡ function_of symbols s
  own = ap (λ (xs : List (Option Symbol)). get_or xs i None) are
      ∙ (get_or-map (function_of symbols) ss i s None below ∙ ap (function_of symbols) (sym at))

  pub turn_of_key : (k key old new : ℕ) → key ≡ key_of (get_or fs i None) → b ≡ true
      → old ≡ calls_of symbols k (calls_in symbols (take i ss)) → new ≡ old + cond (key == k) 1 0
      → new ≡ calls_of symbols k (calls_in symbols (take (i + 1) ss))
  turn_of_key k key old new key_is call was grown =
      called_more symbols ss i s (get_or fs i None) k old new below at own (sym (is s) ∙ call) was
      (grown ∙ ap (λ (n : ℕ). old + cond (n == k) 1 0) key_is)

  pub turn_of_all : (old new : ℕ) → b ≡ true → old ≡ length (calls_in symbols (take i ss)) → new ≡ old + 1
      → new ≡ length (calls_in symbols (take (i + 1) ss))
  turn_of_all old new call was grown = all_more symbols ss i s old new below (sym (is s) ∙ call) was grown

  pub turn_same : b ≡ false → calls_in symbols (take (i + 1) ss) ≡ calls_in symbols (take i ss)
  turn_same call = calls_same symbols ss i s below (sym (is s) ∙ call)

-- the code's test is the definition's: the step comes after another one
pub call_is : (symbols : List Symbol) (ss : List Step) {fs : List (Option Symbol)} (i : ℕ) (d : Step) {s t : Step}
    {f g : Option Symbol}
    → fs ≡ map (function_of symbols) ss → i < length ss → 0 < i
    → s ≡ get_or ss i s → t ≡ get_or ss (i - 1) t → f ≡ get_or fs i None → g ≡ get_or fs (i - 1) None
    → begins s.pc f ≡ true
    → (is_jump t.instr.op && (is_some (step_dest t) || not (key_of g == key_of f)))
    ≡ is_call symbols (before_at None i ss) (get_or ss i d)
call_is symbols ss i d {s = s} {t = t} {f = f} {g = g} are l some step before own earlier begun =
    let a : get_or ss i d ≡ s = get_or_default ss i d s l ∙ sym step in
    let b : before_at None i ss ≡ Some t =
    before_is ss i t some l ∙ ap (λ (x : Step). Some x) (sym before) in
    let e : f ≡ function_of symbols s =
    own ∙ (ap (λ (xs : List (Option Symbol)). get_or xs i None) are
    ∙ (get_or-map (function_of symbols) ss i s None l ∙ ap (function_of symbols) (sym step))) in
    let h : g ≡ function_of symbols t =
    earlier ∙ (ap (λ (xs : List (Option Symbol)). get_or xs (i - 1) None) are
    ∙ (get_or-map (function_of symbols) ss (i - 1) t None (omega arith) ∙ ap (function_of symbols) (sym before))) in
    let open_begun : begins s.pc (function_of symbols s) ≡ true = rw e at begun in
    rw (a, b, open_begun, e, h) refl
