-- Runs, one step at a time, and the parts of them.
use Rattle.std.proofs.Common.{◌≡◌, ℕ, zero, suc, ◌+◌, ◌-◌, ◌<◌, ◌≤◌, [], ◌∷◌, ◌++◌, Option, Some, Result, Ok, Err}
use Rattle.std.proofs.Common.{append_assoc, zero-add, add-one, refl, sym, ◌∙◌, ap, arith}
use Rattle.tomex_cut.specs.declared.error.CutError.{CutError}
use Rattle.tomex_cut.specs.declared.error.CutError.TheVariants as errors
use Rattle.tomex_cut.specs.After.{after, and_a_step, left_by}
use Rattle.tomex_cut.specs.Part.{GoesOn, Ends, Fails, most_part, part_at, part_by, part_from, verdict}
use Rattle.tomex_rvexec.specs.declared.outcome.EndKind.{EndKind}
use Rattle.tomex_rvexec.specs.declared.outcome.Fault.{Fault}
use Rattle.tomex_rvexec.specs.declared.step.Step.{Step}
use Rattle.tomex_rvexec.specs.Flow.{IsState}
use Rattle.tomex_rvexec.specs.Machine.{State, Outcome, Goes, Faults, step_of, coming_of}
use Rattle.tomex_rvexec.specs.Machine.{Ends as EndsRun}
use Rattle.tomex_rvexec.specs.Trace.{steps_from}
use Rattle.tomex_rvexec.proofs.FlowStates.{goes_by_step, state_kept}
use Rattle.tomex_rvexec.proofs.FlowSteps.{changes}

-- what a state that is reached by one more step comes from
pub record CameFrom (s : State) (n : ℕ) (t : State) : Type 0 where
  pub before : State
  pub reached : after s n ≡ Ok before
  pub goes : step_of before ≡ Goes t
  pub step : Step
  pub is : coming_of before ≡ Some step

pub came_from : (s : State) (n : ℕ) (t : State) → after s (suc n) ≡ Ok t → CameFrom s n t
came_from s n t e = at (after s n) refl e
  where
    by : (u : State) (o : Outcome) → step_of u ≡ o → after s n ≡ Ok u → left_by o u ≡ Ok t → CameFrom s n t
    by u (Goes v) o here left =
        let same : v ≡ t = cc in
        let goes : step_of u ≡ Goes t = o ∙ ap Goes same in
        let c = goes_by_step u t goes in
        record { before = u; reached = here; goes = goes; step = c.step; is = c.is }
    by u (EndsRun k) o here left = cc
    by u (Faults k) o here left = cc

    at : (r : Result State CutError) → after s n ≡ r → and_a_step r ≡ Ok t → CameFrom s n t
    at (Ok u) here left = by u (step_of u) refl here left
    at (Err x) here left = cc

-- one more step
pub after_more : (s t u : State) (n : ℕ) → after s n ≡ Ok t → step_of t ≡ Goes u → after s (n + 1) ≡ Ok u
after_more s t u n here goes = rw (add-one, here, goes) refl

-- a run that is over stays so
pub over_stays : (s : State) (e : CutError) (n m : ℕ) → after s n ≡ Err e → after s (m + n) ≡ Err e
over_stays s e n zero here = rw zero-add here
over_stays s e n (suc m) here =
    let next : suc m + n ≡ suc (m + n) = omega arith in
    rw (next, over_stays s e n m here) refl

pub over : (s t : State) (e : CutError) (n m : ℕ) → after s n ≡ Ok t → left_by (step_of t) t ≡ Err e → n < m
    → after s m ≡ Err e
over s t e n m here left more =
    let one : after s (n + 1) ≡ Err e = rw (add-one, here) left in
    let sum : m - (n + 1) + (n + 1) ≡ m = omega arith in
    rw (sum) at (over_stays s e (n + 1) (m - (n + 1)) one)

-- the steps after n others are those from the state after these
pub joined : (n m : ℕ) (s t : State) → after s n ≡ Ok t → steps_from (n + m) s ≡ steps_from n s ++ steps_from m t
joined zero m s t here = let same : s ≡ t = cc in rw (zero-add, same) refl
joined (suc n) m s t here =
    let f = came_from s n t here in
    let next : suc n + m ≡ n + suc m = omega arith in
    let one : suc n ≡ n + suc zero = omega arith in
    let more : steps_from (suc m) f.before ≡ f.step ∷ steps_from m t = rw (f.is, f.goes) refl in
    let single : steps_from (suc zero) f.before ≡ f.step ∷ [] = rw (f.is, f.goes) refl in
    let long = joined n (suc m) s f.before f.reached ∙ ap (λ xs. steps_from n s ++ xs) more in
    let short = joined n (suc zero) s f.before f.reached ∙ ap (λ xs. steps_from n s ++ xs) single in
    ap (λ k. steps_from k s) next ∙ (long
    ∙ (sym (append_assoc (steps_from n s) (f.step ∷ []) (steps_from m t))
    ∙ ap (λ xs. xs ++ steps_from m t) (sym (ap (λ k. steps_from k s) one ∙ short))))

pub steps_more : (s t u : State) (n : ℕ) (x : Step) → after s n ≡ Ok t → coming_of t ≡ Some x → step_of t ≡ Goes u
    → steps_from (n + 1) s ≡ steps_from n s ++ x ∷ []
steps_more s t u n x here is goes =
    let single : steps_from 1 t ≡ x ∷ [] = rw (is, goes) refl in
    joined n 1 s t here ∙ ap (λ xs. steps_from n s ++ xs) single

-- the step that ends the run is the last
pub steps_end : (s t : State) (kind : EndKind) (n m : ℕ) (x : Step) → after s n ≡ Ok t → coming_of t ≡ Some x
    → step_of t ≡ EndsRun kind → n < m → steps_from m s ≡ steps_from n s ++ x ∷ []
steps_end s t kind n m x here is ends more =
    let sum : m ≡ n + suc (m - (n + 1)) = omega arith in
    let single : steps_from (suc (m - (n + 1))) t ≡ x ∷ [] = rw (is, ends) refl in
    ap (λ k. steps_from k s) sum ∙ (joined n (suc (m - (n + 1))) s t here ∙ ap (λ xs. steps_from n s ++ xs) single)

-- what every state of a run keeps
pub record Keeps (s t : State) : Type 0 where
  pub state : IsState t
  pub image : t.image ≡ s.image

pub after_keeps : (n : ℕ) (s t : State) → IsState s → after s n ≡ Ok t → Keeps s t
after_keeps zero s t h here = let same : s ≡ t = cc in rw (← same) (record { state = h; image = refl })
after_keeps (suc n) s t h here =
    let f = came_from s n t here in
    let k = after_keeps n s f.before h f.reached in
    record {
      state = state_kept f.before t f.step k.state f.is f.goes;
      image = (changes f.before t f.step k.state f.is f.goes).image ∙ k.image;
    }

-- a part doesn't end where nothing is there to end it
skips : (d : ℕ) (s : State) (n more : ℕ) → ((m : ℕ) → n ≤ m → m < n + d → verdict s m ≡ GoesOn)
    → part_from s (d + more) n ≡ part_from s more (n + d)
skips zero s n more going = let e : n + zero ≡ n = omega arith in rw (zero-add, e) refl
skips (suc d) s n more going =
    let e : suc d + more ≡ suc (d + more) = omega arith in
    let f : n + suc d ≡ n + 1 + d = omega arith in
    let here : verdict s n ≡ GoesOn = going n (omega arith) (omega arith) in
    let rest = skips d s (n + 1) more (λ m low high. going m (omega arith) (omega arith)) in
    ap (λ k. part_from s k n) e ∙ (ap (λ v. part_by v s n (part_from s (d + more))) here
    ∙ (rest ∙ ap (λ k. part_from s more k) (sym f)))

-- up to step k there is nothing to end the part
abbrev pub IsOpen : State → ℕ → ℕ → Type 0
IsOpen s least k = (m : ℕ) → least ≤ m → m < k → verdict s m ≡ GoesOn

-- so it is decided by what there is after step k
decided : (s : State) (least k : ℕ) → least ≤ k → k ≤ most_part → IsOpen s least k
    → part_at (Ok s) least ≡ part_by (verdict s k) s k (part_from s (most_part - k))
decided s least k low high going =
    let e : most_part + 1 - least ≡ k - least + suc (most_part - k) = omega arith in
    let f : least + (k - least) ≡ k = omega arith in
    ap (λ d. part_from s d least) e
    ∙ (skips (k - least) s least (suc (most_part - k)) (λ m a b. going m a (omega arith))
    ∙ ap (λ j. part_from s (suc (most_part - k)) j) f)

pub part_ends : (s : State) (least k : ℕ) (end : Option ℕ) → least ≤ k → k ≤ most_part → IsOpen s least k
    → verdict s k ≡ Ends end
    → part_at (Ok s) least ≡ Ok (record { start = s; steps = steps_from k s; end = end })
part_ends s least k end low high going is =
    decided s least k low high going ∙ ap (λ v. part_by v s k (part_from s (most_part - k))) is

pub part_fails : (s : State) (least k : ℕ) (e : CutError) → least ≤ k → k ≤ most_part → IsOpen s least k
    → verdict s k ≡ Fails e → part_at (Ok s) least ≡ Err e
part_fails s least k e low high going is =
    decided s least k low high going ∙ ap (λ v. part_by v s k (part_from s (most_part - k))) is

pub never_ends : (s : State) (least : ℕ) → least ≤ most_part → IsOpen s least (most_part + 1)
    → part_at (Ok s) least ≡ Err errors.NoEnd
never_ends s least low going =
    let e : most_part + 1 - least ≡ most_part + 1 - least + 0 = omega arith in
    ap (λ d. part_from s d least) e
    ∙ skips (most_part + 1 - least) s least 0 (λ m a b. going m a (omega arith))

-- what is left after a fault
pub fault_leaves : (t : State) (f : Fault) → step_of t ≡ Faults f.kind → f.pc ≡ t.pc
    → left_by (step_of t) t ≡ Err (errors.Fault f)
fault_leaves t f is at =
    ap (λ o. left_by o t) is ∙ ap (λ (pc : ℕ). Err (errors.Fault (record { kind = f.kind; pc = pc }))) (sym at)
