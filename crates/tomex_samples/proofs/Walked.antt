-- A run, step by step: which step used each word last, and how long the run is.
use Rattle.std.proofs.Common.{◌≡◌, ℕ, suc, ◌+◌, ◌-◌, ◌*◌, ◌/◌, ◌<◌, ◌≤◌, List, [], ◌∷◌, length, refl, sym, ◌∙◌, ap}
use Rattle.std.proofs.Common.{arith, subst, inl, inr, Result, Ok, Err, Some, Bool, true, false}
use Rattle.std.proofs.lemmas.Bool.{cases_lt, le-ltb, lt-ltb, ltb-false}
use Rattle.std.proofs.lemmas.List.{get_or-replicate, length-replicate}
use Rattle.std.proofs.lemmas.List.Folds.{list_any-append}
use Rattle.std.proofs.Math.Bool.{or-false, or-true}
use Rattle.std.specs.List.{list_any}
use Rattle.std.specs.Prelude.{◌⊎◌, ◌||◌, nat_lt, if◌then◌else◌, replicate, slice_index}
use Rattle.tomex_cut.specs.After.{after}
use Rattle.tomex_cut.specs.Part.{is_used, uses}
use Rattle.tomex_cut.proofs.Walks.{Keeps, after_more}
use Rattle.tomex_image.specs.Image.{IsLoaded, Loaded}
use Rattle.tomex_image.specs.Window.{IsWindow, Span}
use Rattle.tomex_samples.specs.declared.error.PartsError.{PartsError}
use Rattle.tomex_samples.specs.Stretches.{and_one, length_by, most_stretches, run_length}
use Rattle.tomex_samples.specs.Uses.{AreNumbered}
use Rattle.tomex_samples.proofs.Reach.{and_step, rest_from}
use Rattle.tomex_rvexec.specs.declared.outcome.EndKind.{EndKind}
use Rattle.tomex_rvexec.specs.declared.step.Step.{Step}
use Rattle.tomex_rvexec.specs.Flow.{IsState}
use Rattle.tomex_rvexec.proofs.FlowStates.{start_state, state_kept}
use Rattle.tomex_rvexec.proofs.FlowSteps.{changes}
use Rattle.tomex_rvexec.specs.Machine.{State, Goes, Ends, coming_of, step_of}
use Rattle.tomex_rvexec.specs.Run.{start_of}
use Rattle.tomex_rvexec.specs.Trace.{steps_from}

-- each word's number is that of the step that used it last: after any b steps, a later one used it if its number is
-- greater than b
pub record AreLastUses (s : State) (n base : ℕ) (numbers : List ℕ) : Type 0 where
  pub each : (k b : ℕ) (u : State) → k < length numbers → b ≤ n → after s b ≡ Ok u
      → is_used (steps_from (n - b) u) (base + 4 * k) ≡ nat_lt b (slice_index numbers k)

not_less : (b m : ℕ) → false ≡ nat_lt b m → m ≤ b
not_less b m e = omega (arith, ltb-false b m (sym e))

uses_more : (s t : State) (n base : ℕ) (old new : List ℕ) (x : Step) → AreLastUses s n base old → after s n ≡ Ok t
    → coming_of t ≡ Some x → AreNumbered base (λ a. uses a x) (n + 1) old new → AreLastUses s (n + 1) base new
uses_more s t n base old new x u here comes more = record {
  each = λ k b v h low reached. at k b v (omega (arith, more.count)) low reached (cases_lt n b);
}
  where
    last_at : (k : ℕ) → k < length old → slice_index old k ≤ n
    last_at k h = not_less n (slice_index old k) (let e : n - n ≡ 0 = omega arith in
        rw (e) at (u.each k n t h (omega arith) here))

    by : (used : Bool) (b last now : ℕ) → b ≤ n → now ≡ (if used then n + 1 else last)
        → (nat_lt b last || used) ≡ nat_lt b now
    by true b last now low is =
        let less : b < now = omega (arith, is) in
        or-true (nat_lt b last) ∙ sym (lt-ltb b now less)
    by false b last now low is = or-false (nat_lt b last) ∙ ap (nat_lt b) (sym is)

    few_by : (used : Bool) (last now b : ℕ) → last ≤ n → n < b → now ≡ (if used then n + 1 else last) → now ≤ b
    few_by true last now b low all is = omega (arith, is)
    few_by false last now b low all is = omega (arith, is)

    at : (k b : ℕ) (v : State) → k < length old → b ≤ n + 1 → after s b ≡ Ok v → (n < b) ⊎ (b ≤ n)
        → is_used (steps_from (n + 1 - b) v) (base + 4 * k) ≡ nat_lt b (slice_index new k)
    at k b v h low reached (inl all) =
        let e : n + 1 - b ≡ 0 = omega arith in
        let few : slice_index new k ≤ b =
        few_by (uses (base + 4 * k) x) (slice_index old k) (slice_index new k) b (last_at k h) all (more.each k h) in
        ap (λ m. is_used (steps_from m v) (base + 4 * k)) e ∙ sym (le-ltb b (slice_index new k) few)
    at k b v h low reached (inr less) =
        let e : n + 1 - b ≡ n - b + 1 = omega arith in
        let rest = rest_from s t v n b here less reached in
        ap (λ m. is_used (steps_from m v) (base + 4 * k)) e
        ∙ (ap (λ xs. is_used xs (base + 4 * k)) (and_step v t (n - b) x rest comes)
        ∙ (list_any-append (uses (base + 4 * k)) (steps_from (n - b) v) (x ∷ [])
        ∙ (ap (λ c. list_any (uses (base + 4 * k)) (steps_from (n - b) v) || c) (or-false (uses (base + 4 * k) x))
        ∙ (ap (λ c. c || uses (base + 4 * k) x) (u.each k b v h less reached)
        ∙ by (uses (base + 4 * k) x) b (slice_index old k) (slice_index new k) less (more.each k h)))))

-- n steps, and then those that are left
abbrev pub plus : ℕ → Result ℕ PartsError → Result ℕ PartsError
plus n (Ok k) = Ok (n + k)
plus n (Err e) = Err e

-- after n steps the run is in t
pub record IsWalked (i : Loaded) (steps n : ℕ) (t : State) (base : ℕ) (numbers : List ℕ) : Type 0 where
  pub reached : after (start_of i) n ≡ Ok t
  pub keeps : Keeps (start_of i) t
  pub from : base ≡ i.window.base
  pub size : 4 * length numbers ≡ i.window.size
  pub last : AreLastUses (start_of i) n base numbers
  pub whole : run_length (most_stretches * steps) (start_of i) ≡ plus n (run_length (most_stretches * steps - n) t)

pub plus_one : (n : ℕ) (r : Result ℕ PartsError) → plus n (and_one r) ≡ plus (n + 1) r
plus_one n (Ok k) = let e : n + (k + 1) ≡ n + 1 + k = omega arith in ap Ok e
plus_one n (Err e) = refl

plus_none : (r : Result ℕ PartsError) → r ≡ plus 0 r
plus_none (Ok k) = let e : k ≡ 0 + k = omega arith in ap Ok e
plus_none (Err e) = refl

-- the length of a run from a step on
pub length_on : (n limit : ℕ) (t : State) → n < limit
    → run_length (limit - n) t ≡ length_by (step_of t) t (run_length (limit - (n + 1)))
length_on n limit t less = let e : limit - n ≡ suc (limit - (n + 1)) = omega arith in ap (λ m. run_length m t) e

pub length_goes : (n limit : ℕ) (t u : State) → n < limit → step_of t ≡ Goes u
    → plus n (run_length (limit - n) t) ≡ plus (n + 1) (run_length (limit - (n + 1)) u)
length_goes n limit t u less goes =
    ap (plus n) (length_on n limit t less ∙ ap (λ o. length_by o t (run_length (limit - (n + 1)))) goes)
    ∙ plus_one n (run_length (limit - (n + 1)) u)

pub length_ends : (n limit : ℕ) (t : State) (kind : EndKind) → n < limit → step_of t ≡ Ends kind
    → plus n (run_length (limit - n) t) ≡ Ok (n + 1)
length_ends n limit t kind less ends =
    ap (plus n) (length_on n limit t less ∙ ap (λ o. length_by o t (run_length (limit - (n + 1)))) ends)

pub length_fails : (n limit : ℕ) (t : State) (e : PartsError) → n < limit
    → length_by (step_of t) t (run_length (limit - (n + 1))) ≡ Err e → plus n (run_length (limit - n) t) ≡ Err e
length_fails n limit t e less fails = ap (plus n) (length_on n limit t less ∙ fails)

pub walked_none : (i : Loaded) (steps base : ℕ) (numbers : List ℕ) → IsState (start_of i) → base ≡ i.window.base
    → 4 * length numbers ≡ i.window.size → numbers ≡ replicate (length numbers) 0
    → IsWalked i steps 0 (start_of i) base numbers
walked_none i steps base numbers state from size none = record {
  reached = refl;
  keeps = record { state = state; image = refl };
  from = from;
  size = size;
  last = record {
    each = λ k b u h low reached.
        let is : b ≡ 0 = omega arith in
        let e : 0 - b ≡ 0 = omega arith in
        let here : slice_index numbers k ≡ 0 =
        ap (λ xs. slice_index xs k) none ∙ get_or-replicate (length numbers) k 0 0 h in
        let few : slice_index numbers k ≤ b = omega arith in
        ap (λ m. is_used (steps_from m u) (base + 4 * k)) e ∙ sym (le-ltb b (slice_index numbers k) few);
  };
  whole =
      let e : most_stretches * steps - 0 ≡ most_stretches * steps = omega arith in
      plus_none (run_length (most_stretches * steps) (start_of i))
      ∙ ap (λ m. plus 0 (run_length m (start_of i))) (sym e);
}

pub walked_more : (i : Loaded) (steps n : ℕ) (t u : State) (base base' : ℕ) (old new : List ℕ) (x : Step)
    → IsWalked i steps n t base old → coming_of t ≡ Some x → step_of t ≡ Goes u → n < most_stretches * steps
    → AreNumbered base (λ a. uses a x) (n + 1) old new → base' ≡ base → IsWalked i steps (n + 1) u base' new
walked_more i steps n t u base base' old new x w comes goes less more same = record {
  reached = after_more (start_of i) t u n w.reached goes;
  keeps = record {
    state = state_kept t u x w.keeps.state comes goes;
    image = (changes t u x w.keeps.state comes goes).image ∙ w.keeps.image;
  };
  from = same ∙ w.from;
  size = omega (arith, more.count, w.size);
  last = subst (λ (b : ℕ). AreLastUses (start_of i) (n + 1) b new) (sym same)
      (uses_more (start_of i) t n base old new x w.last w.reached comes more);
  whole = w.whole ∙ length_goes n (most_stretches * steps) t u less goes;
}

pub walked_start : (i : Loaded) (steps : ℕ) (t : State) (window : Span) (base : ℕ) (numbers : List ℕ)
    → IsLoaded i.window i.memory i.entry → t ≡ start_of i → window ≡ i.window → IsWindow window.base window.size
    → base ≡ window.base → numbers ≡ replicate (window.size / 4) 0 → IsWalked i steps 0 t base numbers
walked_start i steps t window base numbers loaded is same limits from none =
    let size : length numbers ≡ window.size / 4 = ap length none ∙ length-replicate (window.size / 4) 0 in
    let words : 4 * length numbers ≡ window.size = omega (arith, limits.size_aligned) in
    subst (λ (s : State). IsWalked i steps 0 s base numbers) (sym is)
    (walked_none i steps base numbers (start_state i loaded) (from ∙ ap (λ (w : Span). w.base) same)
    (words ∙ ap (λ (w : Span). w.size) same) (none ∙ ap (λ n. replicate n 0) (sym size)))
