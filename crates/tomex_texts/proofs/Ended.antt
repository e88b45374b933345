-- The state in which a run ends, and how many steps it takes.
use Rattle.std.proofs.Common.{◌≡◌, ℕ, zero, suc, ◌+◌, ◌-◌, ◌<◌, ◌≤◌, List, Option, Some, None, length, refl, sym, ap}
use Rattle.std.proofs.Common.{◌∙◌, subst, arith}
use Rattle.std.specs.Prelude.{IsSome}
use Rattle.std.proofs.lemmas.Bool.{false≢true}
use Rattle.std.proofs.lemmas.List.{length-reverse}
use Rattle.tomex_image.specs.Image.{Loaded, IsLoaded}
use Rattle.tomex_rvexec.specs.declared.outcome.EndKind.{EndKind}
use Rattle.tomex_rvexec.specs.declared.step.Step.{Step}
use Rattle.tomex_rvexec.specs.History.{history, next_state, state_after, step_after}
use Rattle.tomex_rvexec.specs.Machine.{State, Outcome, Ends, step_of}
use Rattle.tomex_rvexec.specs.Run.{EndsWithin, RunEnds, start_of}
use Rattle.tomex_rvexec.specs.Trace.{onto, steps_from}
use Rattle.tomex_rvexec.proofs.FlowEnds.{leads_is, same_steps, step_comes, steps_to_end}
use Rattle.tomex_rvexec.proofs.FlowRuns.{run_leaves, run_state}
use Rattle.tomex_study.specs.Program.{IsProgram, Workload}
use Rattle.tomex_texts.specs.Ends.{count_of, last_state}

stays : (o : Outcome) (x : State) (kind : EndKind) → o ≡ Ends kind → next_state o x ≡ x
stays o x kind e = rw e refl

-- after its end a run stays as it is
after_end : (m n : ℕ) (i : Loaded) (k : ℕ) (s : State) (kind : EndKind) → RunEnds i k s kind → n ≡ m + k
    → state_after i n ≡ s
after_end zero n i k s kind r e =
    let f : n ≡ k = omega arith in
    ap (λ (j : ℕ). state_after i j) f ∙ sym (leads_is i k s r.leads)
after_end (suc m) n i k s kind r e =
    let f : n ≡ suc (m + k) = omega arith in
    let ih : state_after i (m + k) ≡ s = after_end m (m + k) i k s kind r refl in
    let ends : step_of (state_after i (m + k)) ≡ Ends kind =
    subst (λ (z : State). step_of z ≡ Ends kind) (sym ih) r.ends in
    ap (λ (j : ℕ). state_after i j) f ∙ (stays (step_of (state_after i (m + k))) (state_after i (m + k)) kind ends ∙ ih)

at_limit : (n : ℕ) (i : Loaded) (k : ℕ) (s : State) (kind : EndKind) → RunEnds i k s kind → k < n → state_after i n ≡ s
at_limit n i k s kind r h = after_end (n - k) n i k s kind r (omega arith)

pub last_is : (i : Loaded) (k : ℕ) (s : State) (kind : EndKind) → RunEnds i k s kind → k < 262144 → last_state i ≡ s
unfolding last_state
last_is i k s kind r h = at_limit 262144 i k s kind r h

long_onto : (o : Option Step) (xs : List Step) → IsSome o → length (onto o xs) ≡ suc (length xs)
long_onto None xs h = absurd (false≢true h)
long_onto (Some x) xs h = refl

long_history : (k n : ℕ) (i : Loaded) (s : State) (kind : EndKind) → RunEnds i n s kind → k ≤ n + 1
    → length (history i k) ≡ k
long_history zero n i s kind r h = refl
long_history (suc k) n i s kind r h =
    let a = long_onto (step_after i k) (history i k) (step_comes i n k s kind r (omega (arith, h))) in
    let b = long_history k n i s kind r (omega (arith, h)) in
    a ∙ ap suc b

count_to : (n : ℕ) (i : Loaded) (k : ℕ) (s : State) (kind : EndKind) → RunEnds i k s kind → k < n
    → length (steps_from n (start_of i)) ≡ k + 1
count_to n i k s kind r h =
    ap (λ (xs : List Step). length xs) (steps_to_end i k n s kind r h)
    ∙ (length-reverse (history i (k + 1)) ∙ long_history (k + 1) k i s kind r (omega arith))

-- a run that ends after k other steps takes one more
pub count_is : (i : Loaded) (k : ℕ) (s : State) (kind : EndKind) → RunEnds i k s kind → k < 262144 → count_of i ≡ k + 1
unfolding count_of
count_is i k s kind r h = count_to 262144 i k s kind r h

-- the memory in which a run ends fills its window
pub filled : (i : Loaded) → IsLoaded i.window i.memory i.entry → EndsWithin i 262144
    → length (last_state i).memory ≡ i.window.size
filled i loaded e =
    let last : last_state i ≡ e.1 = last_is i e.0 e.1 e.2 e.4 e.3 in
    let long : length e.1.memory ≡ e.1.image.window.size = (run_state i e.0 e.1 loaded e.4.leads).filled in
    let image : e.1.image ≡ i = (run_leaves i e.0 e.1 loaded e.4.leads).image in
    ap (λ (s : State). length s.memory) last ∙ (long ∙ ap (λ (j : Loaded). j.window.size) image)

-- the same within a program's own limit

pub count_within : (p : Workload) → IsProgram p → count_of p.image ≡ length (steps_from p.limit (start_of p.image))
unfolding count_of
count_within p is = ap (λ (xs : List Step). length xs) (same_steps p.image p.limit 262144 is.few_steps is.ends)

pub state_within : (p : Workload) → IsProgram p → last_state p.image ≡ state_after p.image p.limit
state_within p is =
    let e = is.ends in
    let few : p.limit ≤ 262144 = is.few_steps in
    let before : e.0 < p.limit = e.3 in
    last_is p.image e.0 e.1 e.2 e.4 (omega arith) ∙ sym (at_limit p.limit p.image e.0 e.1 e.2 e.4 before)
