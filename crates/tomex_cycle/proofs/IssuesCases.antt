-- The cases of an issue: fetch waits or has stopped, no station is left, a step without a station, and one with its
-- station.
use Rattle.tomex_rvdec.proofs.Places.{pool_low}
use Rattle.tomex_cycle.proofs.Words.{is_none, IfSome, Ok, Err, cases_Bool, lt-ltb, both_ways, Loaded, Configuration}
use Rattle.tomex_cycle.proofs.Words.{stations_of, PoolId, Instruction, dest_of, pool_of, sources_of, place_of_pool}
use Rattle.tomex_cycle.proofs.Words.{Fault, Step, instruction_at, end_of, step_after, is_branch, step_pool, Field, Done}
use Rattle.tomex_cycle.proofs.Words.{AreTimed, IsLeast, can_issue, can_issue_another, least, times_of, has_station}
use Rattle.tomex_cycle.proofs.Words.{is_free, stations_high, number_is, Fetch, At, Stopped, IsIssuing, IssuesNext}
use Rattle.tomex_cycle.proofs.Words.{AreIssuedBy, first_timed, ShowsStations, clocks, fetch_after, station_of, place_at}
use Rattle.tomex_cycle.proofs.Words.{new_station, Pools, is_open, operand_in, tags_with, Front, IsNextCycle, IsUpTo}
use Rattle.tomex_cycle.proofs.Words.{ShowsFront, Tag, front, place_of_tag, station_from, slot, ℕ, ◌+◌, ◌*◌, ◌<◌, ◌≤◌}
use Rattle.tomex_cycle.proofs.Words.{◌≡◌, ◌∙◌, true, false, arith, refl, List, ◌∷◌, Option, Some, None, ap, sym, inl}
use Rattle.tomex_cycle.proofs.Words.{inr, slice_set, FaultKind}
use Rattle.tomex_cycle.specs.declared.fetch.Fetch.TheVariants.{Waits}
use Rattle.tomex_cycle.proofs.Places.{low}
use Rattle.tomex_cycle.proofs.Runs.{run_count, next_done, run_next, run_timed, issued_up_to, reach, stopped_is}
use Rattle.tomex_cycle.proofs.IssuesTest.{free_is, room, IsComing, can_is, coming, issues_at, waits_is, yet_more}
use Rattle.tomex_cycle.proofs.IssuesTest.{CanNotIssue}
use Rattle.tomex_cycle.proofs.Issues.{fetch_made, read_j, read_k, registers_same, registers_with, station_made}
use Rattle.tomex_cycle.proofs.Issues.{stations_same, stations_with, tag_made, yet_after}
use Rattle.tomex_cycle.proofs.Truth.{ok_not_err, ok_same}

-- Nothing issues.

blocked : {i : Loaded} {config : Configuration} {n t u : ℕ} (count : ℕ) {s : Front} (from : Fetch)
    → IsNextCycle i config n t u → can_issue_another config (first_timed config i count) u ≡ true
    → IsIssuing i config n t u count s → count ≤ n → s.fetch ≡ from → ((pc : ℕ) → from ≡ At pc → ⊥)
    → CanNotIssue i config count u
blocked count (At pc) at slot shown less f other x is = absurd (other pc refl)
blocked {i} {config} {t = t} count Waits at slot shown less f other x is =
    let w = waits_is i t (first_timed config i count) (sym shown.shown.from ∙ f) in
    can_is t (first_timed config i count) x (issued_up_to at.run shown) at.next slot ∙ rw w refl
blocked {n = n} {t} count (Stopped end pc) at slot shown less f other x is =
    let k : count ≡ n + 1 = stopped_is count t end pc at.run (omega arith) (sym shown.shown.from ∙ f) in
    absurd (omega arith)

pub waits_case : (i : Loaded) (config : Configuration) (count : ℕ) (old : Front) → ((pc : ℕ) → old.fetch ≡ At pc → ⊥)
    → IssuesNext i config count old (Ok false) old
waits_case i config count old other n t u at slot shown = (
  false,
  refl,
  shown,
  λ z less. yet_more i config count (shown.next less) (blocked count old.fetch at slot shown less refl other) at.next,
)

-- the instruction that is fetched
pub record IsFetched (i : Loaded) (s : Front) (pc : ℕ) (instr : Instruction) : Type 0 where
  pub at : s.fetch ≡ At pc
  pub fetched : instruction_at i pc ≡ Ok instr

-- no fetch of a run that ends faults
pub fault_case : (i : Loaded) (config : Configuration) (count : ℕ) (old : Front) (pc : ℕ) (why : FaultKind)
    (fault : Fault) → old.fetch ≡ At pc → instruction_at i pc ≡ Err why → IssuesNext i config count old (Err fault) old
fault_case i config count old pc why fault here bad n t u at slot shown =
    let x = coming t count pc at.run shown.few (sym shown.shown.from ∙ here) in
    absurd (ok_not_err (instruction_at i pc) x.0.instr why x.1.fetched bad)

place_small : (p : PoolId) (n : ℕ) → n < 16 → 16 * place_of_pool p + n < 96
place_small p n l = let k : place_of_pool p < 6 = pool_low p in omega arith

-- the stations say which numbers are free
pub open_is : {i : Loaded} {config : Configuration} {s t u : ℕ} (n : ℕ) (p : PoolId) {h : List Done} {st : Pools}
    → IsUpTo i config s h → u ≡ t + 1 → n < 16 → ShowsStations i (clocks u u t) h st
    → is_open st.slots p n ≡ is_free p h u n
open_is {i} {t = t} {u} n p {h} up e l shown =
    ap is_none (shown.slots (16 * place_of_pool p + n) (place_small p n l)) ∙ sym (free_is i p t u n h e l (low h up))

-- all numbers taken, no station left
none_left : {i : Loaded} {config : Configuration} {s t u : ℕ} (p : PoolId) {h : List Done} {st : Pools}
    → IsUpTo i config s h → u ≡ t + 1 → ShowsStations i (clocks u u t) h st
    → ((n : ℕ) → n < stations_of config p → is_open st.slots p n ≡ false) → has_station config h (Some p) u ≡ false
none_left {config = config} {u = u} p {h} up e shown taken = elim (cases_Bool (has_station config h (Some p) u)) [
  | inr none ↦ none
  | inl has ↦
      let found = number_is config h p u has in
      let few : least (is_free p h u) (stations_of config p) < stations_of config p = found.1 in
      let most : stations_of config p ≤ 16 = stations_high config p up.lawful in
      let f = taken (least (is_free p h u) (stations_of config p)) few in
      absurd (both_ways _ (sym (open_is (least (is_free p h u) (stations_of config p)) p up e (omega arith) shown) ∙ f)
      found.0.0)
]

pub full_case : (i : Loaded) (config : Configuration) (count : ℕ) (old : Front) (pc : ℕ) (instr : Instruction)
    (p : PoolId) → IsFetched i old pc instr → pool_of instr.op ≡ Some p
    → ((n : ℕ) → n < stations_of config p → is_open old.pools.slots p n ≡ false)
    → IssuesNext i config count old (Ok false) old
full_case i config count old pc instr p from pool taken n t u at slot shown =
    let up : IsUpTo i config u (first_timed config i count) = issued_up_to at.run shown in
    let x = coming t count pc at.run shown.few (sym shown.shown.from ∙ from.at) in
    let none = none_left p up at.next shown.shown.slots taken in
    let never : CanNotIssue i config count u = λ y is. (
    let same : y ≡ x.0 = some_one (step_after i count) y x.0 is x.1.is in
    let f : x.0.instr ≡ instr = ok_same (instruction_at i pc) x.0.instr instr x.1.fetched from.fetched in
    let q : step_pool y ≡ Some p = ap step_pool same ∙ (ap (λ z. pool_of z.op) f ∙ pool) in
    can_is t (first_timed config i count) y up at.next slot ∙ rw (q, none, x.1.goes) refl) in
    (false, refl, shown, λ z less. yet_more i config count (shown.next less) never at.next)
  where
    some_one : {A : Type 0} (o : Option A) (a b : A) → o ≡ Some a → o ≡ Some b → a ≡ b
    some_one o a b e f = cc

-- The step that comes issues.

-- what is known of the step that issues
record IsNext (i : Loaded) (config : Configuration) (n t u count pc : ℕ) (instr : Instruction) (x : Step) : Type 0 where
  pub come : IsComing i config n t count pc x
  pub instr_is : x.instr ≡ instr
  pub run : first_timed config i (count + 1) ≡ next_done config (first_timed config i count) x
      ∷ first_timed config i count
  pub timed : AreTimed config (next_done config (first_timed config i count) x ∷ first_timed config i count)
  pub at : (times_of config (first_timed config i count) x).issue ≡ u

made_by : {i : Loaded} {config : Configuration} {n t u count pc : ℕ} {instr : Instruction} (x : Step) {s : Front}
    → IsNext i config n t u count pc instr x → u ≡ t + 1 → AreIssuedBy u (first_timed config i count)
    → ShowsFront i (clocks u u t) (next_done config (first_timed config i count) x ∷ first_timed config i count) s
    → IsIssuing i config n t u (count + 1) s
made_by {i} {config} {t = t} {u} {count} x is e issued shown =
    let h : List Done = first_timed config i count in
    let at : (next_done config h x).at.issue ≡ u = is.at in
    let by : AreIssuedBy u (next_done config h x ∷ h) = ((omega arith), issued) in
    record {
      few = let less : count ≤ _ = is.come.less in omega arith;
      shown = rw is.run shown;
      issued = rw is.run by;
      next = λ l. yet_after i config count t u (next_done config h x) h is.run at e;
    }

next_is : {i : Loaded} {config : Configuration} {n count t u : ℕ} {pc : ℕ} {instr : Instruction} {s : Front}
    → IsNextCycle i config n t u → can_issue_another config (first_timed config i count) u ≡ true
    → IsIssuing i config n t u count s → IsFetched i s pc instr → has_station config (first_timed config i count)
    (pool_of instr.op) u ≡ true → (x : Step) × IsNext i config n t u count pc instr x
next_is {i} {config} {count = count} {t} {u} {pc} {instr} at slot shown from has =
    let h : List Done = first_timed config i count in
    let up : IsUpTo i config u h = issued_up_to at.run shown in
    let x = coming t count pc at.run shown.few (sym shown.shown.from ∙ from.at) in
    let f : x.0.instr ≡ instr = ok_same (instruction_at i pc) x.0.instr instr x.1.fetched from.fetched in
    let next = run_next config i count x.0 x.1.is in
    let can : can_issue config h x.0 u ≡ true = can_is t h x.0 up at.next slot ∙ rw (x.1.goes, f, has) refl in (
      x.0,
      record {
        come = x.1;
        instr_is = f;
        run = next;
        timed = rw next at (run_timed i (count + 1) up.lawful);
        at = issues_at h x.0 t u up.lawful up.timed at.next (shown.next x.1.less x.0 x.1.is) can;
      },
    )

-- where the next instruction comes from after this one
abbrev pub IsAfter : Instruction → ℕ → Fetch → Type 0
IsAfter instr pc from = (x : Step) → x.instr ≡ instr → x.pc ≡ pc → from ≡ fetch_after x (is_branch x) (end_of x)

-- FENCE, ECALL and EBREAK
pub none_case : (i : Loaded) (config : Configuration) (count : ℕ) (old : Front) (from : Fetch) (pc : ℕ)
    (instr : Instruction) → IsFetched i old pc instr → pool_of instr.op ≡ None → IsAfter instr pc from
    → IssuesNext i config count old (Ok true) (front old.pools old.registers from)
none_case i config count old from pc instr fetched pool after n t u at slot shown =
    let h : List Done = first_timed config i count in
    let x = next_is at slot shown fetched (rw pool refl) in
    let d : Done = next_done config h x.0 in
    let none : step_pool d.step ≡ None = ap (λ z. pool_of z.op) x.1.instr_is ∙ pool in (
      true,
      refl,
      made_by x.0 x.1 at.next shown.issued (record {
        slots = stations_same d shown.shown.slots none;
        status = registers_same d shown.shown.status none;
        from = fetch_made i t u d h from at.run.lawful x.1.timed x.1.at at.next
            (after x.0 x.1.instr_is (sym x.1.come.at));
      }),
      λ z. absurd (cc),
    )

least_open : {i : Loaded} {config : Configuration} {s t u : ℕ} (n : ℕ) (p : PoolId) {h : List Done} {st : Pools}
    → IsUpTo i config s h → u ≡ t + 1 → n < 16 → ShowsStations i (clocks u u t) h st → IsLeast (is_open st.slots p) n
    → IsLeast (is_free p h u) n
least_open n p up e l shown is = (
  sym (open_is n p up e l shown) ∙ is.0,
  λ m k. sym (open_is m p up e (omega arith) shown) ∙ is.1 m k,
)

-- the place that an instruction takes: the first that is open of its pool
pub record IsOpening (config : Configuration) (st : Pools) (instr : Instruction) (tag : Tag) : Type 0 where
  pub pool : pool_of instr.op ≡ Some tag.pool
  pub first : IsLeast (is_open st.slots tag.pool) tag.number
  pub low : tag.number < stations_of config tag.pool

-- what its issue makes of stations and registers
pub record HasTaken (instr : Instruction) (pc count : ℕ) (tag : Tag) (old new : Front) : Type 0 where
  pub sources : IfSome (sources_of instr).j (λ r. r < 32) × IfSome (sources_of instr).k (λ r. r < 32)
  pub dest : IfSome (dest_of instr) (λ r. r < 32)
  pub slots : new.pools.slots ≡ slice_set old.pools.slots (place_of_tag tag)
      (Some (station_from old.registers instr pc))
  pub issue_numbers : new.pools.issue_numbers ≡ slice_set old.pools.issue_numbers (place_of_tag tag) count
  pub values : new.registers.values ≡ old.registers.values
  pub status : new.registers.tags ≡ tags_with old.registers.tags (dest_of instr) tag
  pub after : IsAfter instr pc new.fetch

-- what a station, units and buses serve
pub some_case : (i : Loaded) (config : Configuration) (count : ℕ) (old new : Front) (pc : ℕ) (instr : Instruction)
    (tag : Tag) → IsFetched i old pc instr → IsOpening config old.pools instr tag
    → HasTaken instr pc count tag old new → IssuesNext i config count old (Ok true) new
some_case i config count old new pc instr tag from opening taken n t u at slot shown =
    let p : PoolId = tag.pool in
    let h : List Done = first_timed config i count in
    let up : IsUpTo i config u h = issued_up_to at.run shown in
    let high : stations_of config p ≤ 16 = stations_high config p up.lawful in
    let small : tag.number < 16 = let l : tag.number < stations_of config p = opening.low in omega arith in
    let free = least_open tag.number p up at.next small shown.shown.slots opening.first in
    let few = room config p u tag.number h up.timed up.issued opening.low free.0 in
    let x = next_is at slot shown from (rw opening.pool (lt-ltb _ _ few)) in
    let d : Done = next_done config h x.0 in
    let here : step_pool d.step ≡ Some p = ap (λ z. pool_of z.op) x.1.instr_is ∙ opening.pool in
    let issue : d.at.issue ≡ u = x.1.at in
    let is_tag = tag_made d p tag.number u x.1.timed.0 issue here free in
    let reached : d.at.issue ≤ d.at.end = (reach d h up.lawful x.1.timed).issue in
    let late : t < d.at.end = let e : u ≡ t + 1 = at.next in omega arith in
    let a = read_j shown.shown.status x.1.come.follows (rw x.1.instr_is taken.sources.0) in
    let b = read_k shown.shown.status x.1.come.follows (rw x.1.instr_is taken.sources.1) in
    let made : station_from old.registers instr pc ≡ station_of i (clocks u u t) d h =
    station_same x.0.instr instr x.0.pc
    pc _ _ x.1.instr_is x.1.come.at a b ∙ sym (station_made i t u d p x.1.timed.0 issue here) in (
      true,
      refl,
      made_by x.0 x.1 at.next up.issued (record {
        slots = stations_with (place_of_tag tag) d shown.shown.slots (ap place_at is_tag)
            (place_small p tag.number small) late
            (taken.slots ∙ ap (λ s. slice_set old.pools.slots (place_of_tag tag) (Some s)) made) (taken.issue_numbers
            ∙ ap (λ k. slice_set old.pools.issue_numbers (place_of_tag tag) k) (run_count count at.run shown.few));
        status = registers_with tag d new.registers shown.shown.status is_tag late (rw x.1.instr_is taken.dest)
            taken.values (rw x.1.instr_is taken.status);
        from = fetch_made i t u d h new.fetch up.lawful x.1.timed issue at.next
            (taken.after x.0 x.1.instr_is (sym x.1.come.at));
      }),
      λ z. absurd (cc),
    )
  where
    station_same : (a b : Instruction) (q pc : ℕ) (j k : Field) → a ≡ b → pc ≡ q
        → operand_in old.registers (sources_of a).j ≡ j → operand_in old.registers (sources_of a).k ≡ k
        → station_from old.registers b pc ≡ new_station a q j k
    station_same a b q pc j k e f g h = rw (← e, f, g, h) refl
