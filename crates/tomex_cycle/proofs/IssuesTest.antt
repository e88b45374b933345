-- Whether the next step can issue in a cycle: fetch and the pool's stations say so.
use Rattle.tomex_cycle.proofs.Places.{holds_is, AreLow}
use Rattle.tomex_timing.proofs.Holders.{stations_fit}
use Rattle.tomex_timing.proofs.Taken.{peak_within}
use Rattle.tomex_config.specs.declared.part.Part.TheVariants.{Stations}
use Rattle.tomex_cycle.proofs.Words.{nat_lt, ◌&&◌, not, Ok, cases_order, lt-ltb, nat_tests, and_parts, Loaded}
use Rattle.tomex_cycle.proofs.Words.{Configuration, IsWithinLimits, EndKind, Step, instruction_at, end_of, next_pc_of}
use Rattle.tomex_cycle.proofs.Words.{step_after, is_branch, step_pool, step_follows, Done, AreTimed}
use Rattle.tomex_cycle.proofs.Words.{are_branches_finished, can_issue, can_issue_another, times_of, has_station}
use Rattle.tomex_cycle.proofs.Words.{least_same, times_are, At, IsYetToIssue, AreIssuedBy, first_timed, steps_in}
use Rattle.tomex_cycle.proofs.Words.{RunEndsAfter, fetch_after, fetch_of, IsUpTo, ◌||◌, slot, count_by, is_none}
use Rattle.tomex_cycle.proofs.Words.{cases_Bool, stations_of, PoolId, place_of_pool, is_free, is_held, clocks}
use Rattle.tomex_cycle.proofs.Words.{holds_place, station_at, ℕ, ◌+◌, ◌<◌, ◌≤◌, ◌≡◌, ◌∙◌, Bool, true, false, arith}
use Rattle.tomex_cycle.proofs.Words.{refl, List, [], ◌∷◌, Option, Some, None, sym, inl, inr, ◌*◌, pc_after, last_issue}
use Rattle.tomex_rvexec.specs.History.{Follows}
use Rattle.tomex_cycle.specs.declared.fetch.Fetch.TheVariants.{Waits}
use Rattle.tomex_cycle.proofs.Runs.{step_is, steps_are, stops}

-- the youngest step is a branch that hasn't finished
abbrev pub is_waiting : ℕ → List Done → Bool
is_waiting t [] = false
is_waiting t (d ∷ older) = is_branch d.step && nat_lt t d.at.finish

done_later : (b : Bool) (t u finish : ℕ) → t ≤ u → (not b || nat_lt finish t) ≡ true → (not b || nat_lt finish u) ≡ true
done_later b t u finish l e = grind (arith, nat_tests)

finished_later : (t u : ℕ) (h : List Done) → t ≤ u → are_branches_finished h t ≡ true → are_branches_finished h u ≡ true
finished_later t u [] l e = refl
finished_later t u (d ∷ h) l e =
    let two = and_parts (not (is_branch d.step) || nat_lt d.at.finish t) (are_branches_finished h t) e in
    rw (done_later (is_branch d.step) t u d.at.finish l two.0, finished_later t u h l two.1) refl

pub finished_from : (config : Configuration) (older : List Done) (x : Step) (t : ℕ) → can_issue config older x t ≡ true
    → are_branches_finished older t ≡ true
finished_from config older x t e = (and_parts _ (are_branches_finished older t) (and_parts _ _ e).0).1

finished_test : (b : Bool) (t u finish : ℕ) → u ≡ t + 1
    → ((not b || nat_lt finish u) && true) ≡ not (b && nat_lt t finish)
finished_test b t u finish e = grind (arith, nat_tests)

-- only the youngest step can be a branch that hasn't finished
pub branches_is : (config : Configuration) (t u : ℕ) (h : List Done) → AreTimed config h → AreIssuedBy u h → u ≡ t + 1
    → are_branches_finished h u ≡ not (is_waiting t h)
branches_is config t u [] timed issued e = refl
branches_is config t u (d ∷ older) timed issued e =
    let before : are_branches_finished older u ≡ true = finished_later d.at.issue u older issued.0
    (finished_from config older d.step d.at.issue timed.0.issue.0) in
    rw before (finished_test (is_branch d.step) t u d.at.finish e)

can_from : (config : Configuration) (h : List Done) (x : Step) (u : ℕ) (b s : Bool) → 0 < u
    → can_issue_another config h u ≡ true → are_branches_finished h u ≡ b → has_station config h (step_pool x) u ≡ s
    → can_issue config h x u ≡ (b && s)
can_from config h x u b s l slot e f = rw (lt-ltb 0 u l, slot, e, f) refl

-- the test for issue in the cycle, if the width leaves one
pub can_is : {i : Loaded} {config : Configuration} (t : ℕ) {u : ℕ} (h : List Done) (x : Step) → IsUpTo i config u h
    → u ≡ t + 1 → can_issue_another config h u ≡ true
    → can_issue config h x u ≡ (not (is_waiting t h) && has_station config h (step_pool x) u)
can_is {config = config} t {u} h x up e slot =
    can_from config h x u _ _ (omega arith) slot (branches_is config t u h up.timed up.issued e) refl

-- what couldn't issue by t and can in the next cycle issues then
pub issues_at : {config : Configuration} (h : List Done) (x : Step) (t u : ℕ) → IsWithinLimits config
    → AreTimed config h → u ≡ t + 1 → ((s : ℕ) → s ≤ t → can_issue config h x s ≡ false) → can_issue config h x u ≡ true
    → (times_of config h x).issue ≡ u
issues_at {config} h x t u good timed e never can =
    least_same (can_issue config h x) _ u (times_are config h x good timed).issue (can, λ s l. never s (omega arith))

-- the next step can't issue in the cycle
abbrev pub CanNotIssue : Loaded → Configuration → ℕ → ℕ → Type 0
CanNotIssue i config count u =
    (x : Step) → step_after i count ≡ Some x → can_issue config (first_timed config i count) x u ≡ false

-- then it hasn't issued by then
pub yet_more : (i : Loaded) (config : Configuration) (count : ℕ) {t u : ℕ} → IsYetToIssue i config count t
    → CanNotIssue i config count u → u ≡ t + 1 → IsYetToIssue i config count u
yet_more i config count {t} {u} yet never e x is s l = elim (cases_order s u) [
  | inl same ↦ rw same (never x is)
  | inr (inl less) ↦ yet x is s (omega arith)
  | inr (inr more) ↦ absurd (omega arith)
]

-- Fetch.

at_parts : (x : Step) (w : Bool) (o : Option EndKind) (pc : ℕ) → fetch_after x w o ≡ At pc
    → (pc ≡ next_pc_of x) × (w ≡ false)
at_parts x w (Some kind) pc e = absurd (cc)
at_parts x true None pc e = absurd (cc)
at_parts x false None pc e = (cc, refl)

waits_parts : (x : Step) (w : Bool) (o : Option EndKind) → fetch_after x w o ≡ Waits → w ≡ true
waits_parts x w (Some kind) e = absurd (cc)
waits_parts x true None e = refl
waits_parts x false None e = absurd (cc)

pub at_is : (i : Loaded) (t pc : ℕ) (h : List Done) → fetch_of i t h ≡ At pc → (pc ≡ pc_after i (steps_in h))
    × (is_waiting t h ≡ false)
at_is i t pc [] e = (cc, refl)
at_is i t pc (d ∷ older) e = at_parts d.step (is_branch d.step && nat_lt t d.at.finish) (end_of d.step) pc e

pub waits_is : (i : Loaded) (t : ℕ) (h : List Done) → fetch_of i t h ≡ Waits → is_waiting t h ≡ true
waits_is i t [] e = absurd (cc)
waits_is i t (d ∷ older) e = waits_parts d.step (is_branch d.step && nat_lt t d.at.finish) (end_of d.step) e

-- while fetch has an address steps are left
pub left : {config : Configuration} {i : Loaded} {n : ℕ} (t count pc : ℕ) → RunEndsAfter i config n → count ≤ n + 1
    → fetch_of i t (first_timed config i count) ≡ At pc → count ≤ n
left {config} {i} {n} t count pc run few e = grind (arith, nat_tests, stops t run)

fetched_by : {i : Loaded} {older : List Step} {x : Step} (pc : ℕ) → Follows i older x → pc ≡ pc_after i older
    → (pc ≡ x.pc) × (instruction_at i pc ≡ Ok x.instr)
fetched_by {x} pc follows e =
    let same : pc ≡ x.pc = e ∙ sym follows.pc in
    (same, rw same (rw (follows.fetch, follows.instr) refl))

-- the step that comes, and what is fetched
pub record IsComing (i : Loaded) (config : Configuration) (n t count pc : ℕ) (x : Step) : Type 0 where
  pub less : count ≤ n
  pub is : step_after i count ≡ Some x
  pub follows : Follows i (steps_in (first_timed config i count)) x
  pub at : pc ≡ x.pc
  pub fetched : instruction_at i pc ≡ Ok x.instr
  pub goes : is_waiting t (first_timed config i count) ≡ false

pub coming : {config : Configuration} {i : Loaded} {n : ℕ} (t count pc : ℕ) → RunEndsAfter i config n → count ≤ n + 1
    → fetch_of i t (first_timed config i count) ≡ At pc → (x : Step) × IsComing i config n t count pc x
coming {config} {i} {n} t count pc run few e =
    let less : count ≤ n = left t count pc run few e in
    let x = step_is count run less in
    let follows : Follows i (steps_in (first_timed config i count)) x.0 = rw (steps_are config i count)
    (step_follows i n count run.state run.kind x.0 run.loaded run.ends less x.1) in
    let at = at_is i t pc (first_timed config i count) e in
    let f = fetched_by pc follows at.0 in
    (x.0, record { less = less; is = x.1; follows = follows; at = f.0; fetched = f.1; goes = at.1 })

-- The numbers of a pool's stations: where one is free, a station is left.

pub last_by : (t : ℕ) (h : List Done) → AreIssuedBy t h → last_issue h ≤ t
last_by t [] issued = omega arith
last_by t (d ∷ older) issued = issued.0

-- if a number of the pool is free, fewer stations are held than there are
pub room : (config : Configuration) (p : PoolId) (u n : ℕ) (h : List Done) → AreTimed config h → AreIssuedBy u h
    → n < stations_of config p → is_free p h u n ≡ true → count_by (is_held p u) h < stations_of config p
room config p u n h timed issued l free = stations_fit config h p u n (stations_of config p) timed (last_by u h issued)
    free l (peak_within config h (Stations p) timed)

-- A number is free exactly if its place is empty.

pub free_is : (i : Loaded) (p : PoolId) (t u n : ℕ) (h : List Done) → u ≡ t + 1 → n < 16 → AreLow h
    → is_free p h u n ≡ is_none (station_at i (clocks u u t) h (16 * place_of_pool p + n))
free_is i p t u n [] e l low = refl
free_is i p t u n (d ∷ h) e l low =
    let same = holds_is p t u n d e l low.0 in
    elim (cases_Bool (holds_place t (16 * place_of_pool p + n) d)) [
      | inl k ↦ rw (same, k) refl
      | inr k ↦ rw (same, k) (free_is i p t u n h e l low.1)
    ]
