-- Runs from the start to a state, and from there on.
use Rattle.std.proofs.Common.{◌≡◌, ℕ, zero, suc, ◌+◌, ◌-◌, ◌≤◌, [], ◌∷◌, ◌++◌, length, refl, sym, ◌∙◌, ap}
use Rattle.std.proofs.Common.{arith, Some, Result, Ok, Err, length-append}
use Rattle.tomex_cut.specs.declared.error.CutError.{CutError}
use Rattle.tomex_cut.specs.After.{after}
use Rattle.tomex_cut.proofs.Walks.{came_from, joined, over_stays}
use Rattle.tomex_rvexec.specs.declared.step.Step.{Step}
use Rattle.tomex_rvexec.specs.Machine.{State, Outcome, Goes, Ends, Faults, coming_of, step_of}
use Rattle.tomex_rvexec.specs.Trace.{steps_after, steps_from}

-- more steps from a state that is reached
pub after_join : (s u : State) (b m : ℕ) → after s b ≡ Ok u → after s (b + m) ≡ after u m
after_join s u b zero here = let e : b + zero ≡ b = omega arith in rw (e) here
after_join s u b (suc m) here =
    let e : b + suc m ≡ suc (b + m) = omega arith in
    rw (e, after_join s u b m here) refl

-- a state on the way
pub record Passes (s t : State) (n b : ℕ) : Type 0 where
  pub mid : State
  pub first : after s b ≡ Ok mid
  pub rest : after mid (n - b) ≡ Ok t

pub passes : (s t : State) (n b : ℕ) → after s n ≡ Ok t → b ≤ n → Passes s t n b
passes s t n b here less = at (after s b) refl
  where
    sum : b + (n - b) ≡ n
    sum = omega arith

    at : (r : Result State CutError) → after s b ≡ r → Passes s t n b
    at (Ok u) is = record {
      mid = u;
      first = is;
      rest = sym (after_join s u b (n - b) is) ∙ (ap (after s) sum ∙ here);
    }
    at (Err e) is =
        let again : n - b + b ≡ n = omega arith in
        let over : after s n ≡ Err e = rw (again) at (over_stays s e b (n - b) is) in
        cc

-- the same from a state that is known to be on the way
pub rest_from : (s t u : State) (n b : ℕ) → after s n ≡ Ok t → b ≤ n → after s b ≡ Ok u → after u (n - b) ≡ Ok t
rest_from s t u n b here less is =
    let sum : b + (n - b) ≡ n = omega arith in
    sym (after_join s u b (n - b) is) ∙ (ap (after s) sum ∙ here)

-- a step is the only one of its kind
pub one_step : (t : State) (x : Step) → coming_of t ≡ Some x → steps_from 1 t ≡ x ∷ []
one_step t x comes = rw (comes) (at (step_of t))
  where
    at : (o : Outcome) → x ∷ steps_after o (steps_from 0) ≡ x ∷ []
    at (Goes s) = refl
    at (Ends kind) = refl
    at (Faults kind) = refl

pub and_step : (u t : State) (m : ℕ) (x : Step) → after u m ≡ Ok t → coming_of t ≡ Some x
    → steps_from (m + 1) u ≡ steps_from m u ++ x ∷ []
and_step u t m x here comes = joined m 1 u t here ∙ ap (λ xs. steps_from m u ++ xs) (one_step t x comes)

-- a run that goes on has as many steps as are asked for
pub length_steps : (m : ℕ) (u t : State) → after u m ≡ Ok t → length (steps_from m u) ≡ m
length_steps zero u t here = refl
length_steps (suc m) u t here =
    let f = came_from u m t here in
    let more : steps_from (m + 1) u ≡ steps_from m u ++ f.step ∷ [] = and_step u f.before m f.step f.reached f.is in
    let e : suc m ≡ m + 1 = omega arith in
    let before = length_steps m u f.before f.reached in
    ap (λ k. length (steps_from k u)) e
    ∙ (ap length more ∙ (length-append (steps_from m u) (f.step ∷ []) ∙ omega arith))
