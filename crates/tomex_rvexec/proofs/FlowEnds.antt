-- A run has one state after a number of steps, one end, and one list of steps.
use Rattle.std.proofs.Common.{◌≡◌, ℕ, zero, suc, ◌+◌, ◌-◌, ◌<◌, ◌≤◌, ◌⊎◌, inl, inr, List, [], ◌∷◌, ◌++◌, None, Some}
use Rattle.std.proofs.Common.{refl, sym, ap, ◌∙◌, subst, arith, append_assoc, add-one}
use Rattle.std.specs.Prelude.{IsSome, reverse}
use Rattle.std.proofs.lemmas.Bool.{cases_order, cases_eq}
use Rattle.std.proofs.lemmas.List.{append-nil, reverse-append}
use Rattle.tomex_image.specs.Image.{Loaded, IsLoaded}
use Rattle.tomex_rvexec.specs.declared.outcome.EndKind.{EndKind}
use Rattle.tomex_rvexec.specs.declared.outcome.FaultKind.{FaultKind}
use Rattle.tomex_rvexec.specs.declared.step.Step.{Step}
use Rattle.tomex_rvexec.specs.Flow.{IsAllowed, end_of}
use Rattle.tomex_rvexec.specs.History.{Follows, Leaves, history, state_after, step_after}
use Rattle.tomex_rvexec.specs.Machine.{State, Goes, Ends, Faults, coming_of, step_of}
use Rattle.tomex_rvexec.specs.Run.{EndsWithin, Leads, RunEnds, RunFaults, start_of}
use Rattle.tomex_rvexec.specs.Trace.{steps_from}
use Rattle.tomex_rvexec.proofs.FlowRuns.{run_follows, run_leaves, run_state}
use Rattle.tomex_rvexec.proofs.FlowStates.{allowed, ends_by, ends_by_step, goes_by_step, step_ends, step_goes}

same_next : (a b s t : State) → a ≡ b → step_of a ≡ Goes s → step_of b ≡ Goes t → s ≡ t
same_next a b s t e g h = let f : step_of a ≡ step_of b = ap step_of e in cc

pub leads_once : (k : ℕ) (old s t : State) → Leads old k s → Leads old k t → s ≡ t
leads_once zero old s t l m = l ∙ sym m
leads_once (suc k) old s t l m = same_next l.0 m.0 s t (leads_once k old l.0 m.0 l.1 m.1) l.2 m.2

pub leads_is : (i : Loaded) (k : ℕ) (s : State) → Leads (start_of i) k s → s ≡ state_after i k
leads_is i zero s l = l
leads_is i (suc k) s l =
    let mid : l.0 ≡ state_after i k = leads_is i k l.0 l.1 in
    let there : step_of (state_after i k) ≡ Goes s = subst (λ (z : State). step_of z ≡ Goes s) mid l.2 in
    rw there refl

-- a state before others continues
pub record GoesOn (s : State) : Type 0 where
  pub next : State
  pub goes : step_of s ≡ Goes next

pub before : (k : ℕ) (old s : State) (j : ℕ) → j < k → Leads old k s → (t : State) → Leads old j t → GoesOn t
before zero old s j h l t m = absurd (omega arith)
before (suc k) old s j h l t m = at (cases_eq j k) (λ (less : j < k). before k old l.0 j less l.1 t m)
  where
    at : (j ≡ k) ⊎ (j ≡ k → ⊥) → (j < k → GoesOn t) → GoesOn t
    at (inl e) earlier =
        let n : Leads old k t = subst (λ n. Leads old n t) e m in
        record { next = s; goes = subst (λ (z : State). step_of z ≡ Goes s) (leads_once k old l.0 t l.1 n) l.2 }
    at (inr other) earlier = earlier (omega arith)

pub leads_before : (k : ℕ) (i : Loaded) (s : State) (j : ℕ) → j ≤ k → Leads (start_of i) k s
    → Leads (start_of i) j (state_after i j)
leads_before zero i s j h l = let e : j ≡ 0 = omega arith in rw e refl
leads_before (suc k) i s j h l = at (cases_eq j (suc k)) (λ (less : j ≤ k). leads_before k i l.0 j less l.1)
  where
    at : (j ≡ suc k) ⊎ (j ≡ suc k → ⊥) → (j ≤ k → Leads (start_of i) j (state_after i j))
        → Leads (start_of i) j (state_after i j)
    at (inl e) earlier =
        let here : Leads (start_of i) (suc k) (state_after i (suc k)) =
        subst (λ (z : State). Leads (start_of i) (suc k) z) (leads_is i (suc k) s l) l in
        subst (λ n. Leads (start_of i) n (state_after i n)) (sym e) here
    at (inr other) earlier = earlier (omega arith)

-- at their ends two runs are one
record Same (k j : ℕ) (s t : State) : Type 0 where
  steps : k ≡ j
  state : s ≡ t

stops_once : (old : State) (k j : ℕ) (s t : State) → Leads old k s → Leads old j t → (GoesOn s → ⊥) → (GoesOn t → ⊥)
    → Same k j s t
stops_once old k j s t l m stop halt = at (cases_order k j)
  where
    at : (k ≡ j) ⊎ ((k < j) ⊎ (j < k)) → Same k j s t
    at (inl e) = record { steps = e; state = leads_once k old s t l (subst (λ n. Leads old n t) (sym e) m) }
    at (inr (inl h)) = absurd (stop (before j old t k h m s l))
    at (inr (inr h)) = absurd (halt (before k old s j h l t m))

ends_stop : (s : State) (kind : EndKind) → step_of s ≡ Ends kind → GoesOn s → ⊥
ends_stop s kind e g = let h : step_of s ≡ Goes g.next = g.goes in cc

faults_stop : (s : State) (kind : FaultKind) → step_of s ≡ Faults kind → GoesOn s → ⊥
faults_stop s kind e g = let h : step_of s ≡ Goes g.next = g.goes in cc

pub one_end : (i : Loaded) (k j : ℕ) (s t : State) (kind other : EndKind) → RunEnds i k s kind → RunEnds i j t other
    → (k ≡ j) × (s ≡ t) × (kind ≡ other)
one_end i k j s t kind other a b =
    let same = stops_once (start_of i) k j s t a.leads b.leads (ends_stop s kind a.ends) (ends_stop t other b.ends) in
    let f : step_of s ≡ step_of t = ap step_of same.state in
    let g : step_of s ≡ Ends kind = a.ends in
    let h : step_of t ≡ Ends other = b.ends in
    (same.steps, same.state, cc)

pub one_fault : (i : Loaded) (k j : ℕ) (s t : State) (kind other : FaultKind) → RunFaults i k s kind
    → RunFaults i j t other → (k ≡ j) × (s ≡ t) × (kind ≡ other)
one_fault i k j s t kind other a b =
    let same = stops_once (start_of i) k j s t a.leads b.leads (faults_stop s kind a.faults)
    (faults_stop t other b.faults) in
    let f : step_of s ≡ step_of t = ap step_of same.state in
    let g : step_of s ≡ Faults kind = a.faults in
    let h : step_of t ≡ Faults other = b.faults in
    (same.steps, same.state, cc)

pub no_end_and_fault : (i : Loaded) (k j : ℕ) (s t : State) (kind : EndKind) (fault : FaultKind) → RunEnds i k s kind
    → RunFaults i j t fault → ⊥
no_end_and_fault i k j s t kind fault a b =
    let same = stops_once (start_of i) k j s t a.leads b.leads (ends_stop s kind a.ends) (faults_stop t fault b.faults)
    in
    let f : step_of s ≡ step_of t = ap step_of same.state in
    let g : step_of s ≡ Ends kind = a.ends in
    let h : step_of t ≡ Faults fault = b.faults in
    cc

pub ends_within_more : (i : Loaded) (limit more : ℕ) → limit ≤ more → EndsWithin i limit → EndsWithin i more
ends_within_more i limit more h e = (e.0, e.1, e.2, omega (arith, h, e.3), e.4)

-- the list of a run's steps is its history, the oldest first
reversed : (h : List Step) (x : Step) → reverse (x ∷ h) ≡ reverse h ++ x ∷ []
reversed h x = reverse-append (x ∷ []) h

joined : (h : List Step) (x : Step) (rest : List Step) → reverse h ++ x ∷ rest ≡ reverse (x ∷ h) ++ rest
joined h x rest = sym (append_assoc (reverse h) (x ∷ []) rest) ∙ ap (λ (r : List Step). r ++ rest) (sym (reversed h x))

longer : (i : Loaded) (k : ℕ) (s : State) (x : Step) → s ≡ state_after i k → coming_of s ≡ Some x
    → history i (suc k) ≡ x ∷ history i k
longer i k s x mid is =
    let here : coming_of (state_after i k) ≡ Some x = subst (λ (z : State). coming_of z ≡ Some x) mid is in
    rw here refl

first_step : (s t : State) (x : Step) (n : ℕ) → coming_of s ≡ Some x → step_of s ≡ Goes t → steps_from (suc n) s ≡ x
    ∷ steps_from n t
first_step s t x n is goes = rw (is, goes) refl

last_step : (s : State) (x : Step) (kind : EndKind) (n : ℕ) → coming_of s ≡ Some x → step_of s ≡ Ends kind
    → steps_from (suc n) s ≡ x ∷ []
last_step s x kind n is ends = rw (is, ends) refl

pub steps_on : (k : ℕ) (i : Loaded) (s : State) (n : ℕ) → Leads (start_of i) k s
    → steps_from (k + n) (start_of i) ≡ reverse (history i k) ++ steps_from n s
steps_on zero i s n l = let e : 0 + n ≡ n = omega arith in rw (e, l) refl
steps_on (suc k) i s n l =
    let c = goes_by_step l.0 s l.2 in
    let e : suc k + n ≡ k + suc n = omega arith in
    ap (λ m. steps_from m (start_of i)) e ∙ (steps_on k i l.0 (suc n) l.1
    ∙ (ap (λ r. reverse (history i k) ++ r) (first_step l.0 s c.step n c.is l.2)
    ∙ (joined (history i k) c.step (steps_from n s)
    ∙ ap (λ (h : List Step). reverse h ++ steps_from n s) (sym (longer i k l.0 c.step (leads_is i k l.0 l.1) c.is)))))

pub steps_are : (i : Loaded) (k : ℕ) (s : State) → Leads (start_of i) k s
    → steps_from k (start_of i) ≡ reverse (history i k)
steps_are i k s l = let e : k + 0 ≡ k = omega arith in
    ap (λ m. steps_from m (start_of i)) (sym e) ∙ (steps_on k i s 0 l ∙ append-nil (reverse (history i k)))

pub steps_to_end : (i : Loaded) (k limit : ℕ) (s : State) (kind : EndKind) → RunEnds i k s kind → k < limit
    → steps_from limit (start_of i) ≡ reverse (history i (k + 1))
steps_to_end i k limit s kind r h =
    let c = ends_by_step s kind r.ends in
    let e : limit ≡ k + suc (limit - (k + 1)) = omega arith in
    rw add-one
    (ap (λ m. steps_from m (start_of i)) e ∙ (steps_on k i s (suc (limit - (k + 1))) r.leads
    ∙ (ap (λ w. reverse (history i k) ++ w) (last_step s c.step kind (limit - (k + 1)) c.is r.ends)
    ∙ (sym (reversed (history i k) c.step)
    ∙ ap (λ (w : List Step). reverse w) (sym (longer i k s c.step (leads_is i k s r.leads) c.is))))))

pub same_steps : (i : Loaded) (limit more : ℕ) → limit ≤ more → EndsWithin i limit
    → steps_from more (start_of i) ≡ steps_from limit (start_of i)
same_steps i limit more h e =
    steps_to_end i e.0 more e.1 e.2 e.4 (omega (arith, h, e.3)) ∙ sym (steps_to_end i e.0 limit e.1 e.2 e.4 e.3)

-- the steps of a run that ends
at_end : (i : Loaded) (n : ℕ) (s : State) (kind : EndKind) → RunEnds i n s kind → step_of (state_after i n) ≡ Ends kind
at_end i n s kind r = subst (λ (z : State). step_of z ≡ Ends kind) (leads_is i n s r.leads) r.ends

before_end : (i : Loaded) (n k : ℕ) (s : State) (kind : EndKind) → RunEnds i n s kind → k < n → GoesOn (state_after i k)
before_end i n k s kind r h = before n (start_of i) s k h r.leads (state_after i k)
    (leads_before n i s k (omega arith) r.leads)

pub step_comes : (i : Loaded) (n k : ℕ) (s : State) (kind : EndKind) → RunEnds i n s kind → k ≤ n
    → IsSome (step_after i k)
step_comes i n k s kind r h = at (cases_eq k n)
  where
    at : (k ≡ n) ⊎ (k ≡ n → ⊥) → IsSome (step_after i k)
    at (inl e) = subst (λ m. IsSome (step_after i m)) (sym e) (step_ends (state_after i n) kind (at_end i n s kind r))
    at (inr other) = let g = before_end i n k s kind r (omega arith) in step_goes (state_after i k) g.next g.goes

pub step_joins : (i : Loaded) (k : ℕ) (x : Step) → step_after i k ≡ Some x → history i (k + 1) ≡ x ∷ history i k
step_joins i k x c = rw (add-one, c) refl

pub step_follows : (i : Loaded) (n k : ℕ) (s : State) (kind : EndKind) (x : Step) → IsLoaded i.window i.memory i.entry
    → RunEnds i n s kind → k ≤ n → step_after i k ≡ Some x → Follows i (history i k) x
step_follows i n k s kind x loaded r h c = run_follows i k (state_after i k) x loaded (leads_before n i s k h r.leads) c

pub step_goes_on : (i : Loaded) (n k : ℕ) (s : State) (kind : EndKind) (x : Step) → IsLoaded i.window i.memory i.entry
    → RunEnds i n s kind → k < n → step_after i k ≡ Some x → IsAllowed i x
step_goes_on i n k s kind x loaded r h c =
    let g = before_end i n k s kind r h in
    let l : Leads (start_of i) k (state_after i k) = leads_before n i s k (omega arith) r.leads in
    subst (λ (p : Loaded). IsAllowed p x) (run_leaves i k (state_after i k) loaded l).image
    (allowed (state_after i k) g.next x (run_state i k (state_after i k) loaded l) c g.goes)

pub step_ends_it : (i : Loaded) (n : ℕ) (s : State) (kind : EndKind) (x : Step) → RunEnds i n s kind
    → step_after i n ≡ Some x → end_of x ≡ Some kind
step_ends_it i n s kind x r c = ends_by (state_after i n) x kind c (at_end i n s kind r)

pub end_is : (i : Loaded) (n : ℕ) (s : State) (kind : EndKind) → IsLoaded i.window i.memory i.entry → RunEnds i n s kind
    → Leaves i (history i n) s
end_is i n s kind loaded r = run_leaves i n s loaded r.leads

-- a step that doesn't end the program is allowed, including the last one
pub step_allowed : (i : Loaded) (n k : ℕ) (s : State) (kind : EndKind) (x : Step) → IsLoaded i.window i.memory i.entry
    → RunEnds i n s kind → k ≤ n → step_after i k ≡ Some x → end_of x ≡ None → IsAllowed i x
step_allowed i n k s kind x loaded r h c none = elim (cases_order k n) [
  | inl same ↦ absurd (no_end x kind none (step_ends_it i n s kind x r (rw (← same) c)))
  | inr (inl less) ↦ step_goes_on i n k s kind x loaded r less c
  | inr (inr more) ↦ absurd (omega arith)
]
  where
    no_end : (x : Step) (kind : EndKind) → end_of x ≡ None → end_of x ≡ Some kind → ⊥
    no_end x kind e f = cc
