-- What the issue of a step makes of the stations, the register status and fetch.
use Rattle.tomex_timing.proofs.Orders.{address_rises as timed_address_rises}
use Rattle.tomex_cycle.proofs.Words.{nat_lt, nat_le, ◌&&◌, ◌==◌, if◌then◌else◌, slice_index, option_map, IfSome}
use Rattle.tomex_cycle.proofs.Words.{nat_tests, MatchOption, cases_Bool, lt-ltb, lt-leb, eqb-true, eqb-false}
use Rattle.tomex_cycle.proofs.Words.{get_or-set_same, get_or-set_other, length-set, Loaded, Configuration}
use Rattle.tomex_cycle.proofs.Words.{IsWithinLimits, Form, PoolId, Instruction, form_of, sources_at, sources_of, Step}
use Rattle.tomex_cycle.proofs.Words.{end_of, result_of, byte_after, register_after, address_of, is_branch, is_number}
use Rattle.tomex_cycle.proofs.Words.{j_of, k_of, operand, step_dest, step_pool, dest_needs_pool, Field, Tag, Done}
use Rattle.tomex_cycle.proofs.Words.{cycle_of, is_memory, AreTimed, IsTimed, IsLeast, can_issue, is_free, field_of}
use Rattle.tomex_cycle.proofs.Words.{tag_at, tag_of, unsent_tag, issue_from, Fetch, IsYetToIssue, first_timed, steps_in}
use Rattle.tomex_cycle.proofs.Words.{Clocks, ShowsRegisters, ShowsStations, clocks, fetch_after, fetch_of, place_of}
use Rattle.tomex_cycle.proofs.Words.{station_at, station_of, issue_number_at, place_at, new_station, Pools, operand_in}
use Rattle.tomex_cycle.proofs.Words.{tags_with, RegStatus, Station, is_some, unit_with_pool, ℕ, ◌+◌, ◌<◌, ◌≤◌, ◌≡◌, ◌∙◌}
use Rattle.tomex_cycle.proofs.Words.{Bool, true, arith, refl, List, ◌∷◌, Option, Some, None, ap, sym, inl, inr, length}
use Rattle.tomex_cycle.proofs.Words.{slice_index_or, slice_set}
use Rattle.tomex_rvexec.specs.History.{Follows}
use Rattle.tomex_cycle.proofs.Runs.{reach, starts_after}
use Rattle.tomex_cycle.proofs.Truth.{pool_in, some_not_none}
use Rattle.tomex_rvdec.specs.declared.pool.PoolId.TheVariants as pools

-- The times of what issues lie after the cycle.

address_after : {config : Configuration} (d : Done) {older : List Done} → IsTimed config older d.step d.at
    → is_memory d.step ≡ true → d.at.issue < cycle_of d.at.address
address_after {config} d {older} timed e = (timed_address_rises config d older timed e).0

-- Operands.

source_j : (f : Form) (rs1 rs2 r : ℕ) → (sources_at f rs1 rs2).j ≡ Some r → r ≡ rs1
source_j f rs1 rs2 r h4 = grind (arith, nat_tests)

source_k : (f : Form) (rs1 rs2 r : ℕ) → (sources_at f rs1 rs2).k ≡ Some r → r ≡ rs2
source_k f rs1 rs2 r h4 = grind (arith, nat_tests)

-- an operand that is read from the registers
read_is : {i : Loaded} {t : ℕ} (v : ℕ) {h : List Done} {rg : RegStatus} (source : Option ℕ) → ShowsRegisters i t h rg
    → IfSome source (λ r. r < 32) → ((r : ℕ) → source ≡ Some r → v ≡ register_after i (steps_in h) r)
    → operand_in rg source ≡ field_of t h (option_map (operand v) source)
read_is v source h2 h3 h4 = grind (arith, nat_tests)

pub read_j : {i : Loaded} {t : ℕ} {h : List Done} {rg : RegStatus} {x : Step} → ShowsRegisters i t h rg
    → Follows i (steps_in h) x → IfSome (sources_of x.instr).j (λ r. r < 32)
    → operand_in rg (sources_of x.instr).j ≡ field_of t h (j_of x)
read_j {x} shown follows low = read_is x.vj (sources_of x.instr).j shown low
    (λ r e. rw (source_j (form_of x.instr.op) x.instr.rs1 x.instr.rs2 r e) follows.vj)

pub read_k : {i : Loaded} {t : ℕ} {h : List Done} {rg : RegStatus} {x : Step} → ShowsRegisters i t h rg
    → Follows i (steps_in h) x → IfSome (sources_of x.instr).k (λ r. r < 32)
    → operand_in rg (sources_of x.instr).k ≡ field_of t h (k_of x)
read_k {x} shown follows low = read_is x.vk (sources_of x.instr).k shown low
    (λ r e. rw (source_k (form_of x.instr.op) x.instr.rs1 x.instr.rs2 r e) follows.vk)

-- The station of what issues.

none_yet : (memory : Bool) (cycle u address : ℕ) → (memory ≡ true → u < cycle)
    → (if memory && nat_le cycle u then Some address else None) ≡ None
none_yet memory cycle u address e = grind (arith, nat_tests)

made_from : (instr : Instruction) (pc : ℕ) (j k : Field) (start u finish value : ℕ) (address : Option ℕ) → u < start
    → address ≡ None
    → ◌≡◌ {A = Station} (record {
      instr = instr;
      pc = pc;
      j = j;
      k = k;
      address = address;
      finish = if nat_le start u then Some finish else None;
      value = if nat_le start u then value else 0;
    }) (new_station instr pc j k)
made_from instr pc j k start u finish value address l e = rw (lt-leb start u l, e) refl

pub station_made : (i : Loaded) {config : Configuration} (t u : ℕ) (d : Done) {h : List Done} (p : PoolId)
    → IsTimed config h d.step d.at → d.at.issue ≡ u → step_pool d.step ≡ Some p → station_of i (clocks u u t) d h
    ≡ new_station d.step.instr d.step.pc (field_of t h (j_of d.step)) (field_of t h (k_of d.step))
station_made i t u d {h} p timed at pool =
    let after : d.at.issue < d.at.start = starts_after d timed (unit_with_pool d.step ∙ ap is_some pool) in
    made_from d.step.instr d.step.pc (field_of t h (j_of d.step)) (field_of t h (k_of d.step)) d.at.start u d.at.finish
    (result_of d.step (byte_after i (steps_in h)))
    (if is_memory d.step && nat_le (cycle_of d.at.address) u then Some (address_of d.step) else None) (omega arith)
    (none_yet (is_memory d.step) (cycle_of d.at.address) u (address_of d.step)
    (λ m. let k : d.at.issue < cycle_of d.at.address = address_after d timed m in omega arith))

-- its tag
tag_from : (pool : Option PoolId) (station : Option ℕ) (p : PoolId) (n issue : ℕ) (older : List Done) → pool ≡ Some p
    → IsLeast (is_free p older issue) n → MatchOption pool (station ≡ None)
    (λ p. (n : ℕ) × (station ≡ Some n) × IsLeast (is_free p older issue) n)
    → tag_at pool station ≡ Some (record { pool = p; number = n })
tag_from pool station p n issue older h6 h7 h8 = grind (arith, nat_tests)

pub tag_made : {config : Configuration} (d : Done) {h : List Done} (p : PoolId) (n u : ℕ) → IsTimed config h d.step d.at
    → d.at.issue ≡ u → step_pool d.step ≡ Some p → IsLeast (is_free p h u) n
    → tag_of d ≡ Some (record { pool = p; number = n })
tag_made d {h} p n u timed at pool least =
    tag_from (step_pool d.step) d.at.station p n d.at.issue h pool (rw at least) timed.station

-- The stations.

slot_with : (i : Loaded) (c : Clocks) (x y : ℕ) (d : Done) (h : List Done) → place_of d ≡ Some x → c.end < d.at.end
    → station_at i c (d ∷ h) y ≡ (if x == y then Some (station_of i c d h) else station_at i c h y)
slot_with i c x y d h e l = rw (lt-ltb c.end d.at.end l, e) (turned (x == y))
  where
    turned : (b : Bool) → (if b && true then Some (station_of i c d h) else station_at i c h y) ≡ (if b then Some
        (station_of i c d h) else station_at i c h y)
    turned b = grind (arith, nat_tests)

set_slot : (xs : List (Option Station)) (x y : ℕ) (s : Station) → x < length xs
    → slice_index_or (slice_set xs x (Some s)) y None ≡ (if x == y then Some s else slice_index_or xs y None)
set_slot xs x y s l = elim (cases_Bool (x == y)) [
  | inl e ↦ let f : x ≡ y = eqb-true x y e in rw (e, ← f) (get_or-set_same xs x (Some s) None l)
  | inr e ↦ rw e (get_or-set_other xs x y (Some s) None (λ z. eqb-false x y e (sym z)))
]

number_with : (x y n : ℕ) (d : Done) (h : List Done) (issue_numbers : List ℕ) → place_of d ≡ Some x → x < 96
    → length issue_numbers ≡ 128 → n ≡ length h → slice_index issue_numbers y ≡ issue_number_at h y
    → slice_index (slice_set issue_numbers x n) y ≡ issue_number_at (d ∷ h) y
number_with x y n d h issue_numbers place small count same before = elim (cases_Bool (x == y)) [
  | inl e ↦ let f : x ≡ y = eqb-true x y e in
      rw (place, e, ← f) (get_or-set_same issue_numbers x n 0 (omega arith) ∙ same)
  | inr e ↦ rw (place, e) (get_or-set_other issue_numbers x y n 0 (λ z. eqb-false x y e (sym z)) ∙ before)
]

pub stations_with : {i : Loaded} {c : Clocks} (x : ℕ) (d : Done) {h : List Done} {old new : Pools}
    → ShowsStations i c h old → place_of d ≡ Some x → x < 96 → c.end < d.at.end
    → new.slots ≡ slice_set old.slots x (Some (station_of i c d h))
    → new.issue_numbers ≡ slice_set old.issue_numbers x (length h) → ShowsStations i c (d ∷ h) new
stations_with {i} {c} x d {h} {old} shown place small late slots issue_numbers = record {
  places = ap length slots ∙ (length-set old.slots x (Some (station_of i c d h)) ∙ shown.places);
  slots = λ y l. ap (λ xs. slice_index_or xs y None) slots ∙ (set_slot old.slots x y (station_of i c d h) (omega arith)
      ∙ (rw (shown.slots y l) refl ∙ sym (slot_with i c x y d h place late)));
  order_count = ap length issue_numbers ∙ (length-set old.issue_numbers x (length h) ∙ shown.order_count);
  issue_numbers = λ y l. ap (λ xs. slice_index xs y) issue_numbers ∙ number_with x y (length h) d h old.issue_numbers
      place small shown.order_count refl (shown.issue_numbers y l);
}

none_place : (pool : Option PoolId) (station : Option ℕ) → pool ≡ None → tag_at pool station ≡ None
none_place None station e = refl
none_place (Some p) station e = absurd (cc)

-- what takes no station changes none
pub stations_same : {i : Loaded} {c : Clocks} (d : Done) {h : List Done} {st : Pools} → ShowsStations i c h st
    → step_pool d.step ≡ None → ShowsStations i c (d ∷ h) st
stations_same d shown none =
    let place : place_of d ≡ None = ap place_at (none_place (step_pool d.step) d.at.station none) in
    record {
      places = shown.places;
      slots = λ x l. shown.slots x l ∙ rw place refl;
      order_count = shown.order_count;
      issue_numbers = λ x l. shown.issue_numbers x l ∙ rw place refl;
    }

-- The registers.

tags_at : (tags : List (Option Tag)) (dest : Option ℕ) (tag : Tag) (r : ℕ) → length tags ≡ 32
    → IfSome dest (λ q. q < 32) → slice_index_or (tags_with tags dest tag) r None ≡ (if is_number dest r then Some tag
    else slice_index_or tags r None)
tags_at tags None tag r count low = refl
tags_at tags (Some q) tag r count low = elim (cases_Bool (q == r)) [
  | inl e ↦ let f : q ≡ r = eqb-true q r e in rw (e, ← f) (get_or-set_same tags q (Some tag) None (rw count low))
  | inr e ↦ rw e (get_or-set_other tags q r (Some tag) None (λ z. eqb-false q r e (sym z)))
]

tags_count : (tags : List (Option Tag)) (dest : Option ℕ) (tag : Tag) → length (tags_with tags dest tag) ≡ length tags
tags_count tags None tag = refl
tags_count tags (Some q) tag = length-set tags q (Some tag)

pub registers_with : {i : Loaded} {t : ℕ} (tag : Tag) (d : Done) {h : List Done} {old : RegStatus} (new : RegStatus)
    → ShowsRegisters i t h old → tag_of d ≡ Some tag → t < d.at.end → IfSome (step_dest d.step) (λ q. q < 32)
    → new.values ≡ old.values → new.tags ≡ tags_with old.tags (step_dest d.step) tag → ShowsRegisters i t (d ∷ h) new
registers_with {t} tag d {old} new shown is late low values tags =
    let sent : unsent_tag t d ≡ Some tag = rw (lt-ltb t d.at.end late) is in
    record {
      count = ap length values ∙ shown.count;
      status = ap length tags ∙ (tags_count old.tags (step_dest d.step) tag ∙ shown.status);
      tags = λ r l. ap (λ xs. slice_index_or xs r None) tags
          ∙ (tags_at old.tags (step_dest d.step) tag r shown.status low ∙ rw (sent, shown.tags r l) refl);
      values = λ r l none. elim (cases_Bool (is_number (step_dest d.step) r)) [
        | inl e ↦ absurd (some_not_none tag (sym sent ∙ (rw e at none)))
        | inr e ↦ rw e (ap (λ xs. slice_index xs r) values ∙ shown.values r l (rw e at none))
      ];
    }

pub registers_same : {i : Loaded} {t : ℕ} (d : Done) {h : List Done} {rg : RegStatus} → ShowsRegisters i t h rg
    → step_pool d.step ≡ None → ShowsRegisters i t (d ∷ h) rg
registers_same d shown none =
    let dest : step_dest d.step ≡ None = dest_needs_pool d.step none in
    record {
      count = shown.count;
      status = shown.status;
      tags = λ r l. shown.tags r l ∙ rw dest refl;
      values = λ r l e. shown.values r l (rw dest at e) ∙ rw dest refl;
    }

-- Fetch.

branch_late : (b : Bool) (t finish : ℕ) → (b ≡ true → t < finish) → b ≡ (b && nat_lt t finish)
branch_late b t finish l = grind (arith, nat_tests)

pub fetch_made : (i : Loaded) {config : Configuration} (t u : ℕ) (d : Done) (h : List Done) (ft : Fetch)
    → IsWithinLimits config → AreTimed config (d ∷ h) → d.at.issue ≡ u → u ≡ t + 1
    → ft ≡ fetch_after d.step (is_branch d.step) (end_of d.step) → ft ≡ fetch_of i t (d ∷ h)
fetch_made i t u d h ft good timed at e is =
    let order : d.at.start ≤ d.at.finish = (reach d h good timed).order in
    let late : is_branch d.step ≡ true → t < d.at.finish = λ b. (
    let unit = unit_with_pool d.step ∙ pool_in (step_pool d.step) pools.Bru b in
    let after : d.at.issue < d.at.start = starts_after d timed.0 unit in
    omega arith) in
    is ∙ ap (λ (w : Bool). fetch_after d.step w (end_of d.step)) (branch_late (is_branch d.step) t d.at.finish late)

-- What comes after it.

-- nothing issues before what is older
pub yet_after : (i : Loaded) (config : Configuration) (count t u : ℕ) (d : Done) (h : List Done)
    → first_timed config i (count + 1) ≡ d ∷ h → d.at.issue ≡ u → u ≡ t + 1 → IsYetToIssue i config (count + 1) t
yet_after i config count t u d h run at e x is s l = rw run (elim (cases_Bool (can_issue config (d ∷ h) x s)) [
  | inr never ↦ never
  | inl can ↦ let k : d.at.issue ≤ s = issue_from config (d ∷ h) x s can in absurd (omega arith)
])
