-- If nothing happens in a cycle and nothing finishes for a while, nothing happens for that while.
use Rattle.tomex_cycle.proofs.Words.{◌≢◌, nat_le, ◌==◌, ◌&&◌, is_some, count_by, if◌then◌else◌, nat_tests, MatchOption}
use Rattle.tomex_cycle.proofs.Words.{MatchBool, AllByRecursion, cases_Bool, both_ways, leb-true, leb-false, ne_eqb}
use Rattle.tomex_cycle.proofs.Words.{and_right, sum_by-cons, Configuration, IsWithinLimits, option_of, PoolId, UnitId}
use Rattle.tomex_cycle.proofs.Words.{step_pool, step_unit, step_dest, j_of, k_of, is_branch, is_in, is_number, Operand}
use Rattle.tomex_cycle.proofs.Words.{Step, Done, Times, is_of, is_memory, cycle_of, writer_end, source_end, last_issue}
use Rattle.tomex_cycle.proofs.Words.{last_address, is_held, AreTimed, IsLeast, can_issue, can_address, can_start}
use Rattle.tomex_cycle.proofs.Words.{can_end, conflicts, units_low, width_low, none_later, AllSettled, IsSettled}
use Rattle.tomex_cycle.proofs.Words.{IfSome, stations_of, ℕ, zero, suc, ◌+◌, ◌-◌, ◌<◌, ◌≤◌, ◌≡◌, ◌∙◌, Bool, true, false}
use Rattle.tomex_cycle.proofs.Words.{arith, refl, List, [], ◌∷◌, Option, Some, None, ap, sym, inl, inr, buses_low}
use Rattle.tomex_cycle.proofs.Words.{count_none, can_address_from, can_address_is, can_end_from, can_end_is}
use Rattle.tomex_cycle.proofs.Words.{can_issue_from, can_issue_is, can_start_from, All, IsTrue, All-from_recursion}
use Rattle.tomex_cycle.proofs.Words.{recursion_from_All}
use Rattle.tomex_cycle.proofs.Runs.{reach}
use Rattle.tomex_timing.proofs.Tests.{can_start_is}

-- nothing of the step falls in the cycle but perhaps its start
pub record IsAtRest (v : ℕ) (d : Done) : Type 0 where
  pub issue : d.at.issue ≢ v
  pub address : cycle_of d.at.address ≢ v
  pub finish : d.at.finish ≢ v
  pub end : d.at.end ≢ v

abbrev pub AllAtRest : ℕ → List Done → Type 0
AllAtRest v h = AllByRecursion (IsAtRest v) h

-- of the step only its finish may fall in the cycle, if it is so
pub record IsQuietBut (P : Done → Type 0) (v : ℕ) (d : Done) : Type 0 where
  pub issue : d.at.issue ≢ v
  pub address : cycle_of d.at.address ≢ v
  pub start : d.at.start ≢ v
  pub finish : d.at.finish ≡ v → P d
  pub end : d.at.end ≢ v

-- nothing of the step falls in the cycle
abbrev pub IsQuiet : ℕ → Done → Type 0
IsQuiet v d = IsQuietBut (λ d. ⊥) v d

abbrev pub AllQuiet : ℕ → List Done → Type 0
AllQuiet v h = AllByRecursion (IsQuiet v) h

-- the step has a result to send, and gives no next pc
abbrev pub HasResult : Done → Type 0
HasResult d = (is_some (step_dest d.step) ≡ true) × (is_branch d.step ≡ false)

-- nothing of the step falls in the cycle but perhaps the finish of a result
abbrev pub IsSteady : ℕ → Done → Type 0
IsSteady v d = IsQuietBut HasResult v d

abbrev pub AllSteady : ℕ → List Done → Type 0
AllSteady v h = AllByRecursion (IsSteady v) h

-- what holds of each step follows of each from what follows of one
all_so : {P Q : Done → Type 0} (h : List Done) → ((d : Done) → P d → Q d) → AllByRecursion P h → AllByRecursion Q h
all_so [] one all = tt
all_so (d ∷ h) one all = (one d all.0, all_so h one all.1)

pub quiet_steady : (v : ℕ) (h : List Done) → AllQuiet v h → AllSteady v h
quiet_steady v h = all_so h (λ d q. record {
  issue = q.issue;
  address = q.address;
  start = q.start;
  finish = λ e. absurd (q.finish e);
  end = q.end;
})

quiet_rests : (v : ℕ) (h : List Done) → AllQuiet v h → AllAtRest v h
quiet_rests v h =
    all_so h (λ d q. record { issue = q.issue; address = q.address; finish = q.finish; end = q.end })

pub settled_rests : (v : ℕ) (h : List Done) → AllSettled v h → AllAtRest v h
settled_rests v h =
    all_so h (λ d q. record { issue = q.issue; address = q.address; finish = q.finish; end = q.end })

last_issue_quiet : (v : ℕ) (h : List Done) → 0 < v → AllAtRest v h → last_issue h ≢ v
last_issue_quiet v [] l quiet e = omega arith
last_issue_quiet v (d ∷ h) l quiet e = quiet.0.issue e

pub last_issue_settled : (u : ℕ) (h : List Done) → AllSettled u h → last_issue h ≢ u + 1
last_issue_settled u [] settled e = omega arith
last_issue_settled u (d ∷ h) settled e = settled.0.no_issue_next e

last_address_quiet : (v : ℕ) (h : List Done) → 0 < v → AllAtRest v h → last_address h ≢ v
last_address_quiet v [] l quiet e = omega arith
last_address_quiet v (d ∷ h) l quiet e = elim (cases_Bool (is_memory d.step)) [
  | inl m ↦ quiet.0.address (rw m at e)
  | inr m ↦ last_address_quiet v h l quiet.1 (rw m at e)
]

writer_quiet : (v r : ℕ) (h : List Done) → 0 < v → AllAtRest v h → writer_end h r ≢ v
writer_quiet v r [] l quiet e = omega arith
writer_quiet v r (d ∷ h) l quiet e = elim (cases_Bool (is_number (step_dest d.step) r)) [
  | inl m ↦ quiet.0.end (rw m at e)
  | inr m ↦ writer_quiet v r h l quiet.1 (rw m at e)
]

source_quiet : (v : ℕ) (h : List Done) (o : Option Operand) → 0 < v → AllAtRest v h → source_end h o ≢ v
source_quiet v h None l quiet e = omega arith
source_quiet v h (Some o) l quiet e = writer_quiet v o.register h l quiet e

-- what has finished before the next cycle has before this one
finished_before : (p : Done → Bool) (v : ℕ) (h : List Done) → AllAtRest v h
    → All (λ d. IsTrue (p d) → d.at.finish < v + 1) h → All (λ d. IsTrue (p d) → d.at.finish < v) h
finished_before p v h quiet all = All-from_recursion (λ d. IsTrue (p d) → d.at.finish < v) h
    (go h quiet (recursion_from_All (λ d. IsTrue (p d) → d.at.finish < v + 1) h all))
  where
    go : (h : List Done) → AllAtRest v h → AllByRecursion (λ d. IsTrue (p d) → d.at.finish < v + 1) h
        → AllByRecursion (λ d. IsTrue (p d) → d.at.finish < v) h
    go [] quiet all = tt
    go (d ∷ h) quiet all = (
      (λ is. let l : d.at.finish < v + 1 = all.0 is in let apart : d.at.finish ≢ v = quiet.0.finish in omega arith),
      go h quiet.1 all.1,
    )

held_quiet : (v end : ℕ) → end ≢ v → nat_le (v + 1) end ≡ nat_le v end
held_quiet v end apart = grind (arith, nat_tests)

holders_quiet : (v : ℕ) (pool : PoolId) (h : List Done) → AllAtRest v h
    → count_by (is_held pool (v + 1)) h ≡ count_by (is_held pool v) h
holders_quiet v pool [] quiet = refl
holders_quiet v pool (d ∷ h) quiet =
    let one = ap (λ b. is_in pool (step_pool d.step) && b) (held_quiet v d.at.end quiet.0.end) in
    sum_by-cons _ d h ∙ (rw (one, holders_quiet v pool h quiet.1) refl
    ∙ sym (sum_by-cons (λ (e : Done). if is_held pool v e then 1 else 0) d h))

station_quiet : (config : Configuration) (v : ℕ) (h : List Done) (pool : Option PoolId) → AllAtRest v h
    → IfSome pool (λ p. count_by (is_held p (v + 1)) h < stations_of config p)
    → IfSome pool (λ p. count_by (is_held p v) h < stations_of config p)
station_quiet config v h None quiet e = tt
station_quiet config v h (Some pool) quiet e = rw (holders_quiet v pool h quiet) at e

unit_quiet : {config : Configuration} (v : ℕ) (h : List Done) (unit : UnitId) → IsWithinLimits config → AllQuiet v h
    → count_by (λ d. is_of unit (step_unit d.step) && d.at.start == v) h < (option_of config unit).units
unit_quiet {config} v h unit good quiet =
    rw (count_none (λ (d : Done). is_of unit (step_unit d.step) && d.at.start == v) (IsQuiet v)
    (λ d s. and_right (is_of unit (step_unit d.step)) (d.at.start == v) (ne_eqb d.at.start v s.start)) h quiet)
    (units_low config unit good)

bus_quiet : {config : Configuration} (v : ℕ) (h : List Done) → IsWithinLimits config → AllAtRest v h
    → count_by (λ d. is_some (step_dest d.step) && d.at.end == v) h < config.buses
bus_quiet {config} v h good quiet = rw (count_none (λ (d : Done). is_some (step_dest d.step) && d.at.end == v)
    (IsAtRest v) (λ d s. and_right (is_some (step_dest d.step)) (d.at.end == v) (ne_eqb d.at.end v s.end)) h quiet)
    (buses_low config good)

-- What passes a test of the next cycle passes it in a cycle in which nothing happens.

-- if none has issued in either of the two, all slots of this one are left
pub issue_quiet : {config : Configuration} (v : ℕ) (h : List Done) (s : Step) → 0 < v → IsWithinLimits config
    → AreTimed config h → AllAtRest v h → last_issue h ≢ v + 1 → can_issue config h s (v + 1) ≡ true
    → can_issue config h s v ≡ true
issue_quiet {config} v h s l good timed quiet apart e =
    let can = can_issue_is config h s (v + 1) e in
    let here : last_issue h ≢ v = last_issue_quiet v h l quiet in
    let by : last_issue h ≤ v + 1 = can.in_order in
    can_issue_from config h s v (record {
      first = l;
      in_order = omega arith;
      slot_left = rw (none_later config h v timed (omega arith)) (width_low config good);
      branches_finished = finished_before (λ d. is_branch d.step) v h quiet can.branches_finished;
      station_left = station_quiet config v h (step_pool s) quiet can.station_left;
    })

address_quiet : (v : ℕ) (h : List Done) (s : Step) (issue : ℕ) → 0 < v → AllAtRest v h → issue ≢ v
    → can_address h s issue (v + 1) ≡ true → can_address h s issue v ≡ true
address_quiet v h s issue l quiet apart e =
    let can = can_address_is h s issue (v + 1) e in
    let base : source_end h (j_of s) ≢ v = source_quiet v h (j_of s) l quiet in
    let last : last_address h ≢ v = last_address_quiet v h l quiet in
    can_address_from h s issue v
    (record { after_issue = omega arith; after_base = omega arith; in_order = omega arith })

start_quiet : {config : Configuration} (v : ℕ) (h : List Done) (s : Step) (unit : UnitId) (issue address : ℕ) → 0 < v
    → IsWithinLimits config → AllQuiet v h → issue ≢ v → address ≢ v
    → can_start config h s unit issue address (v + 1) ≡ true → can_start config h s unit issue address v ≡ true
start_quiet {config} v h s unit issue address l good quiet i a e =
    let can = can_start_is config h s unit issue address (v + 1) e in
    let rest : AllAtRest v h = quiet_rests v h quiet in
    let j : source_end h (j_of s) ≢ v = source_quiet v h (j_of s) l rest in
    let k : source_end h (k_of s) ≢ v = source_quiet v h (k_of s) l rest in
    can_start_from config h s unit issue address v (record {
      after_issue = omega arith;
      after_address = omega arith;
      after_j = omega arith;
      after_k = omega arith;
      conflicts_finished = finished_before (λ d. conflicts d.step s) v h rest can.conflicts_finished;
      unit_left = unit_quiet v h unit good quiet;
    })

end_quiet : {config : Configuration} (v : ℕ) (h : List Done) (finish : ℕ) → IsWithinLimits config → AllAtRest v h
    → finish ≢ v → can_end config h finish (v + 1) ≡ true → can_end config h finish v ≡ true
end_quiet {config} v h finish good quiet apart e =
    let can = can_end_is config h finish (v + 1) e in
    can_end_from config h finish v (record { after_finish = omega arith; bus_left = bus_quiet v h good quiet })

-- so the least cycle that passes it isn't the next one
pub not_least : (p : ℕ → Bool) (a v : ℕ) → (p (v + 1) ≡ true → p v ≡ true) → IsLeast p a → a ≢ v + 1
not_least p a v before least e =
    let here : p a ≡ true = least.0 in
    let now : p (v + 1) ≡ true = ap p (sym e) ∙ here in
    both_ways (p v) (least.1 v (omega arith)) (before now)

-- The next cycle.

-- what had started by the cycle u, and finishes in the cycle w, is so
abbrev pub AllDue : (Done → Type 0) → ℕ → ℕ → List Done → Type 0
AllDue P u w h = AllByRecursion (λ d. d.at.start ≤ u → d.at.finish ≡ w → P d) h

-- there is no such step
abbrev pub AllFree : ℕ → ℕ → List Done → Type 0
AllFree u w h = AllDue (λ d. ⊥) u w h

-- nothing happens from the cycle u to v
abbrev pub AllQuietTo : ℕ → ℕ → List Done → Type 0
AllQuietTo u v h = (k : ℕ) → u ≤ k → k ≤ v → AllQuiet k h

start_by : {config : Configuration} (v : ℕ) (h : List Done) (x : Step) (at : Times) (unit : Option UnitId) → 0 < v
    → IsWithinLimits config → AllQuiet v h → at.issue ≢ v → cycle_of at.address ≢ v → at.issue ≢ v + 1 → MatchOption
    unit (at.start ≡ at.issue) (λ u. IsLeast (can_start config h x u at.issue (cycle_of at.address)) at.start)
    → at.start ≢ v + 1
start_by v h x at None l good quiet i a next timed e = let f : at.start ≡ at.issue = timed in next (omega arith)
start_by {config} v h x at (Some unit) l good quiet i a next timed e =
    not_least (can_start config h x unit at.issue (cycle_of at.address)) at.start v
    (start_quiet v h x unit at.issue (cycle_of at.address) l good quiet i a) timed e

end_by : {config : Configuration} (v : ℕ) (h : List Done) (at : Times) (unit : Option UnitId) (dest : Bool)
    → IsWithinLimits config → AllAtRest v h → at.finish ≢ v → at.issue ≢ v + 1 → (dest ≡ false → at.finish ≢ v + 1)
    → MatchOption unit (at.end ≡ at.issue)
    (λ u. MatchBool dest (IsLeast (can_end config h at.finish) at.end) (at.end ≡ at.finish)) → at.end ≢ v + 1
end_by v h at None dest good quiet f i g timed e = let k : at.end ≡ at.issue = timed in i (omega arith)
end_by {config} v h at (Some unit) true good quiet f i g timed e =
    not_least (can_end config h at.finish) at.end v (end_quiet v h at.finish good quiet f) timed e
end_by v h at (Some unit) false good quiet f i g timed e = let k : at.end ≡ at.finish = timed in
    g refl (omega arith)

address_by : (v : ℕ) (h : List Done) (x : Step) (at : Times) (memory : Bool) → 0 < v → AllAtRest v h → at.issue ≢ v
    → MatchBool memory (IsLeast (can_address h x at.issue) (cycle_of at.address)) (at.address ≡ None)
    → cycle_of at.address ≢ v + 1
address_by v h x at true l quiet i timed e =
    not_least (can_address h x at.issue) (cycle_of at.address) v (address_quiet v h x at.issue l quiet i) timed e
address_by v h x at false l quiet i timed e = let k : at.address ≡ None = timed in
    let z : cycle_of at.address ≡ 0 = rw k refl in omega arith

-- what starts after u, and in none of the cycles from u to v + 1, finishes after v + 1
finish_by : (u v start finish : ℕ) → u ≤ v → ((k : ℕ) → u ≤ k → k ≤ v → start ≢ k) → start ≢ v + 1 → start ≤ finish
    → (start ≤ u → finish ≢ v + 1) → finish ≢ v + 1
finish_by u v start finish l never next order free e = grind (arith, nat_tests)

pub quiet_next : {config : Configuration} (u v : ℕ) (h : List Done) → IsWithinLimits config → AreTimed config h → 0 < u
    → u ≤ v → AllQuietTo u v h → AllFree u (v + 1) h → AllQuiet (v + 1) h
quiet_next u v [] good timed l m quiet free = tt
quiet_next {config} u v (d ∷ h) good timed l m quiet free =
    let older : AllQuiet (v + 1) h = quiet_next u v h good timed.1 l m (λ k a b. (quiet k a b).1) free.1 in
    let now : IsQuiet v d = (quiet v m (omega arith)).0 in
    let before : AllQuiet v h = (quiet v m (omega arith)).1 in
    let rest : AllAtRest v h = quiet_rests v h before in
    let low : 0 < v = omega arith in
    let apart : last_issue h ≢ v + 1 = last_issue_quiet (v + 1) h (omega arith) (quiet_rests (v + 1) h older) in
    let issue : d.at.issue ≢ v + 1 = not_least (can_issue config h d.step) d.at.issue v (issue_quiet v h d.step low good
    timed.1 rest apart) timed.0.issue in
    let address = address_by v h d.step d.at (is_memory d.step) low rest now.issue timed.0.address in
    let start = start_by v h d.step d.at (step_unit d.step) low good before now.issue now.address issue timed.0.start in
    let order : d.at.start ≤ d.at.finish = (reach d h good timed).order in
    let finish = finish_by u v d.at.start d.at.finish m (λ k a b. (quiet k a b).0.start) start order free.0 in
    let end : d.at.end ≢ v + 1 = end_by v h d.at (step_unit d.step) (is_some (step_dest d.step)) good rest now.finish
    issue (λ silent. finish) timed.0.end in
    (record { issue = issue; address = address; start = start; finish = finish; end = end }, older)

-- if nothing happens in the cycle u, and nothing that had started finishes in the next ones, nothing happens in them
pub quiet_on : {config : Configuration} (u n : ℕ) (h : List Done) → IsWithinLimits config → AreTimed config h → 0 < u
    → AllQuiet u h → ((w : ℕ) → u < w → w ≤ u + n → AllFree u w h) → AllQuietTo u (u + n) h
quiet_on u zero h good timed l quiet free k a b = let e : k ≡ u = omega arith in rw e quiet
quiet_on u (suc n) h good timed l quiet free k a b =
    let before : AllQuietTo u (u + n) h = quiet_on u n h good timed l quiet (λ w c d. free w c (omega arith)) in
    elim (cases_Bool (nat_le k (u + n))) [
      | inl e ↦ before k a (leb-true k (u + n) e)
      | inr e ↦
          let more : u + n < k = leb-false k (u + n) e in
          let at : k ≡ u + n + 1 = omega arith in
          rw at (quiet_next u (u + n) h good timed l (omega arith) before
          (free (u + n + 1) (omega arith) (omega arith)))
    ]

-- After a settled cycle.

-- a cycle in which nothing happens is settled
pub quiet_settles : {config : Configuration} (u : ℕ) (h : List Done) → IsWithinLimits config → AreTimed config h → 0 < u
    → AllQuiet u h → AllSettled u h
quiet_settles u [] good timed l quiet = tt
quiet_settles {config} u (d ∷ h) good timed l quiet =
    let now : IsQuiet u d = quiet.0 in
    let older : AllSettled u h = quiet_settles u h good timed.1 l quiet.1 in
    let issue : d.at.issue ≢ u + 1 = not_least (can_issue config h d.step) d.at.issue u
    (issue_quiet u h d.step l good timed.1 (quiet_rests u h quiet.1) (last_issue_settled u h older)) timed.0.issue in (
      record {
        issue = now.issue;
        address = now.address;
        finish = now.finish;
        end = now.end;
        no_issue_next = issue;
        no_start_next = start_by u h d.step d.at (step_unit d.step) l good quiet.1 now.issue now.address
            issue timed.0.start;
      },
      older,
    )

-- what finishes in the next one had started by this one
settled_finish : (P : Type 0) (u start finish : ℕ) → start ≢ u + 1 → start ≤ finish → (start ≤ u → finish ≡ u + 1 → P)
    → finish ≡ u + 1 → P
settled_finish P u start finish later order due e = grind (arith, nat_tests)

-- only such finishes fall in the next one, if all that finishes in it is so, and what is so has a result to
-- send
pub settled_next : (P : Done → Type 0) {config : Configuration} (u : ℕ) (h : List Done)
    → ((d : Done) → P d → is_some (step_dest d.step) ≡ true) → IsWithinLimits config → AreTimed config h → 0 < u
    → AllSettled u h → AllDue P u (u + 1) h → AllByRecursion (IsQuietBut P (u + 1)) h
settled_next P u [] sends good timed l settled due = tt
settled_next P u (d ∷ h) sends good timed l settled due =
    let now : IsSettled u d = settled.0 in
    let rest : AllAtRest u h = settled_rests u h settled.1 in
    let issue : d.at.issue ≢ u + 1 = now.no_issue_next in
    let address = address_by u h d.step d.at (is_memory d.step) l rest now.issue timed.0.address in
    let order : d.at.start ≤ d.at.finish = (reach d h good timed).order in
    let finish = settled_finish (P d) u d.at.start d.at.finish now.no_start_next order due.0 in
    let end : d.at.end ≢ u + 1 = end_by u h d.at (step_unit d.step) (is_some (step_dest d.step)) good rest
    now.finish issue (λ silent e. both_ways (is_some (step_dest d.step)) silent (sends d (finish e))) timed.0.end in (
      record { issue = issue; address = address; start = now.no_start_next; finish = finish; end = end },
      settled_next P u h sends good timed.1 l settled.1 due.1,
    )

-- what had started by the next cycle had by this one
free_on : (u w : ℕ) (h : List Done) → AllSettled u h → AllFree u w h → AllFree (u + 1) w h
free_on u w [] settled free = tt
free_on u w (d ∷ h) settled free = (
  (λ started. free.0 (elim (cases_Bool (nat_le d.at.start u)) [
    | inl k ↦ leb-true d.at.start u k
    | inr k ↦ let late : u < d.at.start = leb-false d.at.start u k in absurd (settled.0.no_start_next (omega arith))
  ])),
  free_on u w h settled.1 free.1,
)

-- and nothing in those after it, if nothing that had started finishes in them
pub settled_quiet : {config : Configuration} (u n : ℕ) (h : List Done) → IsWithinLimits config → AreTimed config h
    → 0 < u → AllSettled u h → ((w : ℕ) → u < w → w ≤ u + n → AllFree u w h) → (k : ℕ) → u < k → k ≤ u + n
    → AllQuiet k h
settled_quiet u n h good timed l settled free k a b =
    let first : AllQuiet (u + 1) h = settled_next (λ d. ⊥) u h (λ d none. absurd none) good timed l settled
    (free (u + 1) (omega arith) (omega arith)) in
    quiet_on (u + 1) (n - 1) h good timed (omega arith) first
    (λ w c d. free_on u w h settled (free w (omega arith) (omega arith))) k (omega arith) (omega arith)
