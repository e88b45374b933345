-- The history of a run's beginning, as laws of the run and of the recurrence give it.
use Rattle.tomex_timing.proofs.Orders.{start_later}
use Rattle.tomex_cycle.proofs.Words.{⊤, IsSome, cases_order, Loaded, nat_tests, Configuration, IsWithinLimits, EndKind}
use Rattle.tomex_cycle.proofs.Words.{Step, IsAllowed, end_of, step_after, step_joins, step_follows, step_goes_on}
use Rattle.tomex_cycle.proofs.Words.{step_ends_it, Done, last_issue, AreTimed, can_issue, times_of, times_are}
use Rattle.tomex_cycle.proofs.Words.{issue_from, steps_in, ArePast, RunEndsAfter, IsYetToIssue, AreIssuedBy, Clocks}
use Rattle.tomex_cycle.proofs.Words.{Front, IsIssuedTo, IsUpTo, nat_lt, is_some, ◌&&◌, ◌==◌, not, cases_Bool, ltb-true}
use Rattle.tomex_cycle.proofs.Words.{ltb-false, lt-ltb, le-ltb, eqb-true, eqb-false, length-append, next_pc_of}
use Rattle.tomex_cycle.proofs.Words.{is_branch, greatest_end, timed_by, Fetch, At, Stopped, first_timed, clocks}
use Rattle.tomex_cycle.proofs.Words.{order_of, onto_end, fetch_of, fetch_after, is_done, IsInIssueOrder, AreBusy, Pools}
use Rattle.tomex_cycle.proofs.Words.{RegStatus, front, IsLeast, IsTimed, MatchOption, UnitId, can_start, cycle_of}
use Rattle.tomex_cycle.proofs.Words.{is_store, step_pool, step_unit, unit_with_pool, ℕ, zero, suc, ◌+◌, ◌-◌, ◌<◌, ◌≤◌}
use Rattle.tomex_cycle.proofs.Words.{◌≡◌, ◌∙◌, true, false, arith, refl, List, [], ◌∷◌, ◌++◌, Some, None, ap, sym, inl}
use Rattle.tomex_cycle.proofs.Words.{inr, length, subst, Bool, Option, reverse-reverse, step_comes, steps_to_end}
use Rattle.tomex_cycle.proofs.Words.{timed_of, history, timed_is, InReach, in_reach, can_start_is, CanStart}
use Rattle.tomex_rvexec.specs.History.{history as first_steps}
use Rattle.tomex_cycle.specs.Run.{first_timed}
use Rattle.tomex_timing.specs.Run.{run_of}
use Rattle.tomex_cycle.proofs.Places.{busy_at, older_up_to}
use Rattle.tomex_cycle.specs.declared.fetch.Fetch.TheVariants.{Waits}
use Rattle.tomex_cycle.proofs.Orders.{empty_order, empty_set, order_is}
use Rattle.tomex_cycle.proofs.Truth.{pool_in, some_of, some_not_none}
use Rattle.tomex_rvdec.specs.declared.pool.PoolId.TheVariants as pools

-- the next step with its times
abbrev pub next_done : Configuration → List Done → Step → Done
next_done config h x = record { step = x; at = times_of config h x }

pub run_next : (config : Configuration) (i : Loaded) (k : ℕ) (x : Step) → step_after i k ≡ Some x
    → first_timed config i (k + 1) ≡ next_done config (first_timed config i k) x ∷ first_timed config i k
unfolding first_timed
run_next config i k x e = ap (timed_of config) (step_joins i k x e)

steps_timed : (config : Configuration) (xs : List Step) → steps_in (timed_of config xs) ≡ xs
steps_timed config [] = refl
steps_timed config (x ∷ xs) = ap (λ ys. x ∷ ys) (steps_timed config xs)

pub steps_are : (config : Configuration) (i : Loaded) (k : ℕ) → steps_in (first_timed config i k) ≡ first_steps i k
unfolding first_timed
steps_are config i k = steps_timed config (first_steps i k)

pub run_none : (config : Configuration) (i : Loaded) → first_timed config i 0 ≡ []
unfolding first_timed
run_none config i = refl

pub run_timed : {config : Configuration} (i : Loaded) (k : ℕ) → IsWithinLimits config
    → AreTimed config (first_timed config i k)
unfolding first_timed
run_timed {config} i k good = timed_is config (first_steps i k) good

-- the run to its end
pub run_whole : {config : Configuration} {i : Loaded} {n : ℕ} → RunEndsAfter i config n
    → run_of config i ≡ first_timed config i (n + 1)
unfolding run_of first_timed
run_whole {config} {i} {n} run = ap (history config) (steps_to_end i n 262144 run.state run.kind run.ends run.few)
    ∙ ap (timed_of config) (reverse-reverse (first_steps i (n + 1)))

-- the step after the first n
pub step_is : {config : Configuration} {i : Loaded} {n : ℕ} (k : ℕ) → RunEndsAfter i config n → k ≤ n
    → (x : Step) × (step_after i k ≡ Some x)
step_is {i} {n} k run l = elim (step_after i k) as (λ o. IsSome o → (x : Step) × (o ≡ Some x))
    [ None ↦ λ h. absurd (cc) | Some x ↦ λ h. (x, refl) ] (step_comes i n k run.state run.kind run.ends l)

-- a step that doesn't end the program continues it
goes_on : {config : Configuration} {i : Loaded} {n : ℕ} (k : ℕ) (x : Step) → RunEndsAfter i config n → k ≤ n
    → step_after i k ≡ Some x → end_of x ≡ None → IsAllowed i x
goes_on {i} {n} k x run l e none = elim (cases_order k n) [
  | inl same ↦
      let f : step_after i n ≡ Some x = rw (← same) e in
      let g : end_of x ≡ Some run.kind = step_ends_it i n run.state run.kind x run.ends f in
      let h : None ≡ Some run.kind = sym none ∙ g in
      absurd (some_not_none run.kind (sym h))
  | inr (inl less) ↦ step_goes_on i n k run.state run.kind x run.loaded run.ends less e
  | inr (inr more) ↦ absurd (omega arith)
]

past_on : {config : Configuration} {i : Loaded} {n : ℕ} (k : ℕ) (x : Step) → RunEndsAfter i config n → k ≤ n
    → step_after i k ≡ Some x → ArePast i (first_timed config i k)
    → ArePast i (next_done config (first_timed config i k) x ∷ first_timed config i k)
past_on {i} {n} k x run l e past =
    (rw steps_are (step_follows i n k run.state run.kind x run.loaded run.ends l e), goes_on k x run l e, past)

pub run_past : {config : Configuration} {i : Loaded} {n : ℕ} (k : ℕ) → RunEndsAfter i config n → k ≤ n + 1
    → ArePast i (first_timed config i k)
run_past {config} {i} zero run l = rw (run_none config i) tt
run_past {config} {i} (suc k) run l =
    let x = step_is k run (omega arith) in
    let f : suc k ≡ k + 1 = omega arith in
    let g = run_next config i k x.0 x.1 in
    rw (f, g) (past_on k x.0 run (omega arith) x.1 (run_past k run (omega arith)))

pub run_up_to : {config : Configuration} {i : Loaded} {n : ℕ} (k t : ℕ) → RunEndsAfter i config n → k ≤ n + 1
    → AreIssuedBy t (first_timed config i k) → IsUpTo i config t (first_timed config i k)
run_up_to {i} k t run l issued =
    record { lawful = run.lawful; timed = run_timed i k run.lawful; past = run_past k run l; issued = issued }

-- the same, of a state that shows them
pub issued_up_to : {i : Loaded} {config : Configuration} {n last yet : ℕ} {c : Clocks} {count : ℕ} {s : Front}
    → RunEndsAfter i config n → IsIssuedTo i config n last yet c count s
    → IsUpTo i config last (first_timed config i count)
issued_up_to {last = last} {count = count} run at = run_up_to count last run at.few at.issued

-- issued after the cycle
abbrev pub AreLater : ℕ → List Done → Type 0
AreLater t [] = ⊤
AreLater t (d ∷ older) = (t < d.at.issue) × AreLater t older

-- what comes after the first k steps
pub record IsRest (config : Configuration) (i : Loaded) (k m t : ℕ) (newer : List Done) : Type 0 where
  pub same : first_timed config i m ≡ newer ++ first_timed config i k
  pub later : AreLater t newer
  pub count : m ≡ length newer + k

issue_is : {config : Configuration} (h : List Done) (x : Step) → IsWithinLimits config → AreTimed config h
    → can_issue config h x (times_of config h x).issue ≡ true
issue_is {config} h x good timed = (times_are config h x good timed).issue.0

pub not_by : {config : Configuration} (h : List Done) (x : Step) (t : ℕ) → IsWithinLimits config → AreTimed config h
    → ((s : ℕ) → s ≤ t → can_issue config h x s ≡ false) → t < (times_of config h x).issue
not_by {config} h x t good timed never = grind (arith, nat_tests, issue_is h x good timed)

-- the step after the rest issues later too
late : {config : Configuration} {i : Loaded} {k m t : ℕ} (x : Step) (newer : List Done) → IsWithinLimits config
    → IsRest config i k m t newer → step_after i m ≡ Some x → (m ≡ k → IsYetToIssue i config k t)
    → t < (times_of config (first_timed config i m) x).issue
late {config} {i} {k} {m} {t} x [] good rest e next =
    let same : m ≡ k = omega arith in
    let yet : IsYetToIssue i config m t = rw same (next same) in
    not_by (first_timed config i m) x t good (run_timed i m good) (yet x e)
late {config} {i} {m} {t} x (d ∷ newer) good rest e next =
    let can : last_issue (first_timed config i m) ≤ (times_of config (first_timed config i m) x).issue =
    issue_from config (first_timed config i m) x _ (issue_is (first_timed config i m) x good (run_timed i m good)) in
    let b : last_issue (first_timed config i m) ≡ d.at.issue = ap last_issue rest.same in
    omega arith

-- the run up to its step m is that up to its step k, and what issues later
pub rest_is : {config : Configuration} {i : Loaded} {n : ℕ} (k j t : ℕ) → RunEndsAfter i config n
    → (k ≤ n → IsYetToIssue i config k t) → j + k ≤ n + 1 → (newer : List Done) × IsRest config i k (j + k) t newer
rest_is k zero t run next l =
    let e : 0 + k ≡ k = omega arith in
    ([], record { same = rw e refl; later = tt; count = omega arith })
rest_is {config} {i} k (suc j) t run next l =
    let before = rest_is k j t run next (omega arith) in
    let x = step_is (j + k) run (omega arith) in
    let e : suc j + k ≡ j + k + 1 = omega arith in
    let g = run_next config i (j + k) x.0 x.1 in
    let d : Done = next_done config (first_timed config i (j + k)) x.0 in
    let same : first_timed config i (j + k) ≡ before.0 ++ first_timed config i k = before.1.same in (
      d ∷ before.0,
      record {
        same = rw (e, g) (ap (λ xs. d ∷ xs) same);
        later = (late x.0 before.0 run.lawful before.1 x.1 (λ z. next (omega arith)), before.1.later);
        count = omega arith;
      },
    )

pub rest_to : {config : Configuration} {i : Loaded} {n : ℕ} (k m t : ℕ) → RunEndsAfter i config n
    → (k ≤ n → IsYetToIssue i config k t) → k ≤ m → m ≤ n + 1 → (newer : List Done) × IsRest config i k m t newer
rest_to {config} {i} k m t run next low high =
    let e : m - k + k ≡ m = omega arith in
    subst (λ (x : ℕ). (newer : List Done) × IsRest config i k x t newer) e (rest_is k (m - k) t run next (omega arith))

-- as many steps are in it as issued
pub run_count : {i : Loaded} {config : Configuration} {n : ℕ} (k : ℕ) → RunEndsAfter i config n → k ≤ n + 1
    → k ≡ length (first_timed config i k)
run_count zero run l = rw run_none refl
run_count {i} {config} (suc k) run l =
    let before : k ≡ length (first_timed config i k) = run_count k run (omega arith) in
    let x = step_is k run (omega arith) in
    let f : suc k ≡ k + 1 = omega arith in
    rw (f, run_next config i k x.0 x.1) (omega arith)

-- When a run is over: no station is busy, and no instruction is left.

-- what holds of the times of each step of a history
pub reach : {config : Configuration} (d : Done) (older : List Done) → IsWithinLimits config
    → AreTimed config (d ∷ older) → InReach (greatest_end older) d.at
reach {config} d older good timed =
    in_reach config older d.step d.at (greatest_end older) good (timed_by config older good timed.1) timed.0

-- what starts had passed the test for it
pub start_least : {config : Configuration} (d : Done) {older : List Done} (unit : UnitId)
    → IsTimed config older d.step d.at → step_unit d.step ≡ Some unit
    → IsLeast (can_start config older d.step unit d.at.issue (cycle_of d.at.address)) d.at.start
start_least {config} d {older} unit timed e = of (step_unit d.step) e timed.start
  where
    of : (o : Option UnitId) → o ≡ Some unit → MatchOption o (d.at.start ≡ d.at.issue)
        (λ u. IsLeast (can_start config older d.step u d.at.issue (cycle_of d.at.address)) d.at.start)
        → IsLeast (can_start config older d.step unit d.at.issue (cycle_of d.at.address)) d.at.start
    of None e h = absurd (cc)
    of (Some v) e h = let f : v ≡ unit = cc in rw (← f) h

pub can_start_then : {config : Configuration} (d : Done) {older : List Done} → IsTimed config older d.step d.at
    → is_some (step_unit d.step) ≡ true
    → (u : UnitId) × CanStart config older d.step u d.at.issue (cycle_of d.at.address) d.at.start
can_start_then {config} d {older} timed some =
    let (u, e) = some_of (step_unit d.step) some in
    (u, can_start_is config older d.step u d.at.issue (cycle_of d.at.address) d.at.start (start_least d u timed e).0)

-- so it starts after its issue
pub starts_after : {config : Configuration} (d : Done) {older : List Done} → IsTimed config older d.step d.at
    → is_some (step_unit d.step) ≡ true → d.at.issue < d.at.start
starts_after {config} d {older} timed some = (start_later config d older timed some).0

pub store_unit : (x : Step) → is_store x ≡ true → is_some (step_unit x) ≡ true
store_unit x e = unit_with_pool x ∙ pool_in (step_pool x) pools.Store e

onto_end-some : (xs : List ℕ) (o : Option ℕ) → is_some o ≡ true → 0 < length (onto_end xs o)
onto_end-some xs None h = absurd (cc)
onto_end-some xs (Some x) h = simp length-append (omega arith)

-- if a step hasn't ended, a place is busy; if all have, none is
pub none_busy : {i : Loaded} {config : Configuration} (h : List Done) (t : ℕ) → IsUpTo i config t h
    → order_of t h ≡ [] → greatest_end h ≤ t
none_busy [] t up e = omega arith
none_busy (d ∷ older) t up e = elim (cases_Bool (nat_lt t d.at.end)) [
  | inl l ↦
      let place = busy_at d up l in
      let f : onto_end (order_of t older) (Some place.0) ≡ [] = rw (l, place.1) at e in
      let k = onto_end-some (order_of t older) (Some place.0) refl in
      let z : length (onto_end (order_of t older) (Some place.0)) ≡ 0 = ap length f in
      absurd (omega arith)
  | inr l ↦
      let less : d.at.end ≤ t = ltb-false _ _ l in
      let f : greatest_end older ≤ t = none_busy older t (older_up_to up) (rw l at e) in
      omega arith
]

pub some_busy : (h : List Done) (t : ℕ) → greatest_end h ≤ t → order_of t h ≡ []
some_busy [] t l = refl
some_busy (d ∷ older) t l = rw (le-ltb t d.at.end (omega arith)) (some_busy older t (omega arith))

stopped_not : (x : Step) (waits : Bool) (kind : EndKind) (pc : ℕ) → end_of x ≡ None
    → fetch_after x waits (end_of x) ≡ Stopped kind pc → ⊥
stopped_not x true kind pc e f = let g : Waits ≡ Stopped kind pc = rw e at f in cc
stopped_not x false kind pc e f = let g : At (next_pc_of x) ≡ Stopped kind pc = rw e at f in cc

-- fetch stops exactly when the last step is issued
pub stopped_is : {config : Configuration} {i : Loaded} {n : ℕ} (k t : ℕ) (end : EndKind) (pc : ℕ)
    → RunEndsAfter i config n → k ≤ n + 1 → fetch_of i t (first_timed config i k) ≡ Stopped end pc → k ≡ n + 1
stopped_is {i} zero t end pc run l e = let f : At i.entry ≡ Stopped end pc = rw run_none at e in
    absurd (cc)
stopped_is {config} {i} {n} (suc k) t end pc run l e = elim (cases_order k n) [
  | inl same ↦ omega arith
  | inr (inl less) ↦
      let x = step_is k run (omega arith) in
      let f : suc k ≡ k + 1 = omega arith in
      let g = run_next config i k x.0 x.1 in
      let d : Done = next_done config (first_timed config i k) x.0 in
      let h : fetch_after x.0 (is_branch x.0 && nat_lt t d.at.finish) (end_of x.0) ≡ Stopped end pc = rw (f, g) at e in
      absurd (stopped_not x.0 (is_branch x.0 && nat_lt t d.at.finish) end pc
      (step_goes_on i n k run.state run.kind x.0 run.loaded run.ends less x.1).on h)
  | inr (inr more) ↦ absurd (omega arith)
]

-- and it has stopped then
pub stops : {config : Configuration} {i : Loaded} {n : ℕ} (t : ℕ) (run : RunEndsAfter i config n)
    → (x : Step) × (step_after i n ≡ Some x) × (fetch_of i t (first_timed config i (n + 1)) ≡ Stopped run.kind x.pc)
stops {config} {i} {n} t run =
    let x = step_is n run (omega arith) in
    let g = run_next config i n x.0 x.1 in
    (x.0, x.1, rw (g, step_ends_it i n run.state run.kind x.0 run.ends x.1) refl)

later_end : {config : Configuration} (newer h : List Done) (t : ℕ) → IsWithinLimits config
    → AreTimed config (newer ++ h) → AreLater t newer → 0 < length newer → t < greatest_end (newer ++ h)
later_end [] h t good timed later l = absurd (omega arith)
later_end (d ∷ newer) h t good timed later l =
    let r : d.at.issue ≤ d.at.end = (reach d (newer ++ h) good timed).issue in
    omega arith

-- while steps are left the run isn't over
pub more_left : {config : Configuration} {i : Loaded} {n : ℕ} (k t : ℕ) → RunEndsAfter i config n → k ≤ n
    → (k ≤ n → IsYetToIssue i config k t) → t < greatest_end (first_timed config i (n + 1))
more_left {config} {i} {n} k t run l next =
    let rest = rest_to k (n + 1) t run next (omega arith) (omega arith) in
    let timed : AreTimed config (rest.0 ++ first_timed config i k) = rw (← rest.1.same) (run_timed i (n + 1) run.lawful)
    in
    rw rest.1.same (later_end rest.0 (first_timed config i k) t run.lawful timed rest.1.later (omega arith))

-- the run is over exactly if fetch has stopped and no station is busy
pub is_over : {config : Configuration} {i : Loaded} {n t count : ℕ} (end : EndKind) (pc : ℕ) {s : Front}
    → RunEndsAfter i config n → IsIssuedTo i config n t t (clocks t t t) count s → s.fetch ≡ Stopped end pc
    → order_of t (first_timed config i count) ≡ [] → greatest_end (first_timed config i (n + 1)) ≤ t
is_over {config} {i} {n} {t} {count} end pc run shown stopped empty =
    let k : count ≡ n + 1 = stopped_is count t end pc run shown.few (sym shown.shown.from ∙ stopped) in
    let e : order_of t (first_timed config i (n + 1)) ≡ [] = rw (← k) empty in
    let up : IsUpTo i config t (first_timed config i (n + 1)) = rw (← k) (issued_up_to run shown) in
    none_busy (first_timed config i (n + 1)) t up e

pub not_stopped : {config : Configuration} {i : Loaded} {n t count : ℕ} {s : Front} → RunEndsAfter i config n
    → IsIssuedTo i config n t t (clocks t t t) count s
    → ((end : EndKind) (pc : ℕ) → s.fetch ≡ Stopped end pc → ⊥) → t < greatest_end (first_timed config i (n + 1))
not_stopped {config} {i} {n} {t} {count} run shown on = elim (cases_order count (n + 1)) [
  | inl k ↦
      let z = stops t run in
      let f : fetch_of i t (first_timed config i count) ≡ Stopped run.kind z.0.pc = rw k z.2 in
      absurd (on run.kind z.0.pc (shown.shown.from ∙ f))
  | inr (inl less) ↦ more_left count t run (omega arith) shown.next
  | inr (inr more) ↦ let l : count ≤ n + 1 = shown.few in absurd (omega arith)
]

pub still_busy : {config : Configuration} {i : Loaded} {n t count : ℕ} {s : Front} → RunEndsAfter i config n
    → IsIssuedTo i config n t t (clocks t t t) count s → (order_of t (first_timed config i count) ≡ [] → ⊥)
    → t < greatest_end (first_timed config i (n + 1))
still_busy {config} {i} {n} {t} {count} run shown busy = elim (cases_order count (n + 1)) [
  | inl k ↦ elim (cases_Bool (nat_lt t (greatest_end (first_timed config i (n + 1))))) [
    | inl l ↦ ltb-true _ _ l
    | inr l ↦
        let less : greatest_end (first_timed config i (n + 1)) ≤ t = ltb-false _ _ l in
        let e : order_of t (first_timed config i count) ≡ [] = rw k (some_busy (first_timed config i (n + 1)) t less) in
        absurd (busy e)
  ]
  | inr (inl less) ↦ more_left count t run (omega arith) shown.next
  | inr (inr more) ↦ let l : count ≤ n + 1 = shown.few in absurd (omega arith)
]

-- the test that the machine makes
pub done_is : {config : Configuration} {i : Loaded} {n t count : ℕ} {stations : Pools} {registers : RegStatus}
    (fetch : Fetch) → RunEndsAfter i config n
    → IsIssuedTo i config n t t (clocks t t t) count (front stations registers fetch)
    → AreBusy stations.slots stations.busy stations.issue_numbers
    → is_done fetch stations.busy ≡ not (nat_lt t (greatest_end (first_timed config i (n + 1))))
done_is {config} {i} {n} {t} (At pc) run shown filled =
    rw (lt-ltb t (greatest_end (first_timed config i (n + 1))) (not_stopped run shown (λ end pc e. cc))) refl
done_is {config} {i} {n} {t} Waits run shown filled =
    rw (lt-ltb t (greatest_end (first_timed config i (n + 1))) (not_stopped run shown (λ end pc e. cc))) refl
done_is {config} {i} {n} {t} {count} {stations} (Stopped end pc) run shown filled =
    let up = issued_up_to run shown in
    elim (cases_Bool (stations.busy == 0)) [
      | inl e ↦
          let none = empty_order up (omega arith) shown.shown.slots filled (eqb-true _ _ e) in
          let l : greatest_end (first_timed config i (n + 1)) ≤ t = is_over end pc run shown refl none in
          rw (e, le-ltb t (greatest_end (first_timed config i (n + 1))) l) refl
      | inr e ↦
          let l : t < greatest_end (first_timed config i (n + 1)) = still_busy run shown (λ z.
          let by : IsInIssueOrder stations.busy stations.issue_numbers [] = rw z at (order_is up (omega arith)
          shown.shown.slots filled) in
          eqb-false _ _ e (empty_set stations.busy stations.issue_numbers filled.small by)) in
          rw (e, lt-ltb t (greatest_end (first_timed config i (n + 1))) l) refl
    ]
