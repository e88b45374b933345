-- The sets of the operations that can start, by kind of unit.
use Rattle.tomex_cycle.proofs.Words.{◌==◌, ◌≢◌, ◌&&◌, not, is_none, is_some, cases_Bool, both_ways, and_parts}
use Rattle.tomex_cycle.proofs.Words.{nat_tests, eqb-true, eqb-false, is_in, is_number, has, IsWithout, IsInIssueOrder}
use Rattle.tomex_cycle.proofs.Words.{IsPicked, Configuration, option_of, pool_of, unit_at, unit_of, place_of_unit}
use Rattle.tomex_cycle.proofs.Words.{PoolId, UnitId, is_of, none_in, inside_left, none_picked, no_option, is_memory_op}
use Rattle.tomex_cycle.proofs.Words.{is_waiting, AreBusy, Pools, IsSetOf, has_address, waits, Station, IsStarting}
use Rattle.tomex_cycle.proofs.Words.{is_clear, kind_if, kind_of, unit_needed, ◌||◌, slot, ℕ, ◌<◌, ◌≡◌, ◌∙◌, Bool, true}
use Rattle.tomex_cycle.proofs.Words.{false, refl, List, [], ◌∷◌, ◌++◌, Option, Some, None, ap, arith, sym, inl, inr}
use Rattle.tomex_cycle.proofs.Words.{slice_index, bytes_at, bytes_of_op, IsWith, none_rest, single_picked}
use Rattle.tomex_cycle.proofs.Words.{is_busy_there, bytes_from, is_ready, AreStartableFor, IsWanted}
use Rattle.tomex_cycle.proofs.IssueOrder.{no_access}
use Rattle.tomex_tags.specs.WaitSets.{waits_for}
use Rattle.tomex_cycle.proofs.Truth.{or_false}
use Rattle.tomex_rvdec.specs.declared.pool.PoolId.TheVariants as pools
use Rattle.tomex_rvdec.specs.declared.pool.UnitId.TheVariants as units

no_kind : (w c : Bool) (u : Option UnitId) (unit : UnitId) → (w && is_of unit u) ≡ false
    → is_number (kind_if (w && c) (kind_of u)) (place_of_unit unit) ≡ false
no_kind w c u unit h4 = grind (arith, nat_tests)

one_kind : (w c : Bool) (u : Option UnitId) (unit : UnitId) → (w && is_of unit u) ≡ true
    → is_number (kind_if (w && c) (kind_of u)) (place_of_unit unit) ≡ c
one_kind w c u unit h4 = grind (arith, nat_tests)

-- what waits for no unit of this kind wants none
wants_not : (slots : List (Option Station)) (older : List ℕ) (next : ℕ) (unit : UnitId) (o : Option Station)
    → waits_for unit o ≡ false → is_number (unit_needed slots older next o) (place_of_unit unit) ≡ false
wants_not slots older next unit None e = refl
wants_not slots older next unit (Some s) e =
    no_kind (is_waiting s) (is_clear slots older s next) (unit_of s.instr.op) unit e

-- a step that waits for a unit takes it if no older access blocks it
pub wants_clear : (slots : List (Option Station)) (older : List ℕ) (next : ℕ) (unit : UnitId) (o : Option Station)
    (clear : Bool) → waits_for unit o ≡ true → ((s : Station) → o ≡ Some s → clear ≡ is_clear slots older s next)
    → clear ≡ is_number (unit_needed slots older next o) (place_of_unit unit)
wants_clear slots older next unit None clear w each = absurd (both_ways false refl w)
wants_clear slots older next unit (Some s) clear w each =
    each s refl ∙ sym (one_kind (is_waiting s) (is_clear slots older s next) (unit_of s.instr.op) unit w)

-- Memory ports.

-- all but the rest are looked at
pub record AreCleared (st : Pools) (next waiting rest clear : ℕ) : Type 0 where
  pub inside : (x : ℕ) → x < 128 → has rest x ≡ true → has waiting x ≡ true
  pub found : (x : ℕ) → x < 128 → has clear x ≡ true → has waiting x ≡ true
  pub wants : (x : ℕ) → x < 128 → has rest x ≡ false → IsWanted st next units.Mem x (has clear x)
  pub later : (x : ℕ) → x < 128 → has rest x ≡ true → has clear x ≡ false

pub first_cleared : (st : Pools) (next waiting : ℕ) → IsSetOf (waits_for units.Mem) st.slots waiting
    → AreCleared st next waiting waiting 0
first_cleared st next waiting of = record {
  inside = λ x l e. e;
  found = λ x l e. absurd (both_ways (has 0 x) (none_in x) e);
  wants = λ x l e older younger by. none_in x
      ∙ sym (wants_not st.slots older next units.Mem (slot st.slots x) (sym (of x l) ∙ e));
  later = λ x l e. none_in x;
}

left_other : {rest left p : ℕ} (x : ℕ) → x < 128 → IsWithout rest p left → (p == x) ≡ false → has left x ≡ has rest x
left_other {p} x l without e = without.others x l (λ z. eqb-false p x e (sym z))

pub one_clear : {st : Pools} {next waiting rest left p clear more : ℕ} → AreCleared st next waiting rest clear → p < 128
    → has rest p ≡ true → IsWithout rest p left → IsWanted st next units.Mem p true → IsWith clear p more
    → AreCleared st next waiting left more
one_clear {waiting} {rest} {left} {p} so small member without wants with = record {
  inside = inside_left waiting rest left p so.inside without;
  found = λ x l e. grind (arith, nat_tests);
  wants = λ x l e. elim (cases_Bool (p == x)) [
    | inl f ↦ let same : p ≡ x = eqb-true p x f in rw (← same, with.same) wants
    | inr f ↦ rw (with.others x (λ z. eqb-false p x f (sym z))) (so.wants x l (sym (left_other x l without f) ∙ e))
  ];
  later = λ x l e. elim (cases_Bool (p == x)) [
    | inl f ↦ absurd (both_ways (has left p) without.same (ap (has left) (eqb-true p x f) ∙ e))
    | inr f ↦ with.others x (λ z. eqb-false p x f (sym z)) ∙ so.later x l (sym (left_other x l without f) ∙ e)
  ];
}

pub none_clear : {st : Pools} {next waiting rest left p clear : ℕ} → AreCleared st next waiting rest clear → p < 128
    → has rest p ≡ true → IsWithout rest p left → IsWanted st next units.Mem p false
    → AreCleared st next waiting left clear
none_clear {waiting} {rest} {left} {p} so small member without wants = record {
  inside = inside_left waiting rest left p so.inside without;
  found = so.found;
  wants = λ x l e. grind (arith, nat_tests);
  later = λ x l e. elim (cases_Bool (p == x)) [
    | inl f ↦ absurd (both_ways (has left p) without.same (ap (has left) (eqb-true p x f) ∙ e))
    | inr f ↦ so.later x l (sym (left_other x l without f) ∙ e)
  ];
}

pub all_cleared : {st : Pools} {next waiting rest clear : ℕ} → AreBusy st.slots st.busy st.issue_numbers
    → IsSetOf (waits_for units.Mem) st.slots waiting → AreCleared st next waiting rest clear → rest ≡ 0
    → AreStartableFor st next units.Mem clear
all_cleared {st} {waiting} {rest} filled of so empty = record {
  inside = λ x l e. is_busy_there (waits_for units.Mem) st.slots st.busy st.issue_numbers waiting refl filled of x l
      (so.found x l e);
  wants = λ x l. so.wants x l (none_rest rest x empty);
}

-- Units of the other kinds.

memory_unit : (o : Option PoolId) → (is_in pools.Load o || is_in pools.Store o) ≡ is_of units.Mem (unit_at o)
memory_unit o = grind (arith, nat_tests)

-- Memory operations of which none is in another's way.

-- a memory operation that waits for nothing else has its address
addressed_one : (s : Station) → waits_for units.Mem (Some s) ≡ true → has_address (Some s) ≡ true
addressed_one s w =
    let two = and_parts (is_waiting s) (is_of units.Mem (unit_of s.instr.op)) w in
    let memory : is_memory_op s.instr.op ≡ true = memory_unit (pool_of s.instr.op) ∙ two.1 in
    let address : (not (is_memory_op s.instr.op) || is_some s.address) ≡ true = (and_parts (is_none s.finish && is_ready
    s) (not (is_memory_op s.instr.op) || is_some s.address) two.0).1 in
    rw memory (rw memory at address)

-- all that wait are clear if each of them is
pub all_waiting : (st : Pools) (next waiting : ℕ) → AreBusy st.slots st.busy st.issue_numbers
    → IsSetOf (waits_for units.Mem) st.slots waiting
    → ((place next : ℕ) (s : Station) (older younger : List ℕ) → place < 128
    → slot st.slots place ≡ Some s → has_address (Some s) ≡ true
    → IsInIssueOrder st.busy st.issue_numbers (older ++ (place ∷ younger)) → is_clear st.slots older s next ≡ true)
    → AreStartableFor st next units.Mem waiting
all_waiting st next waiting filled of clear = record {
  inside = is_busy_there (waits_for units.Mem) st.slots st.busy st.issue_numbers waiting refl filled of;
  wants = λ x l older younger by. of x l ∙ elim (cases_Bool (waits_for units.Mem (slot st.slots x))) [
    | inr e ↦ e ∙ sym (wants_not st.slots older next units.Mem (slot st.slots x) e)
    | inl e ↦ e ∙ wants_clear st.slots older next units.Mem (slot st.slots x) true e (λ s here. sym
        (clear x next s older younger l here (addressed_one s (ap (waits_for units.Mem) (sym here) ∙ e)) by))
  ];
}

-- An operation of another kind needs no access.

other_unit : (unit : UnitId) (u : Option UnitId) → unit ≢ units.Mem → is_of unit u ≡ true → is_of units.Mem u ≡ false
other_unit unit u h2 h3 = grind (arith, nat_tests)

no_bytes : (s : Station) (a : Option ℕ) → is_memory_op s.instr.op ≡ false → bytes_from s.instr.op a ≡ None
no_bytes s None e = refl
no_bytes s (Some a) e = no_option (bytes_at s.instr.op a) (bytes_of_op s.instr.op a ∙ e)

clear_of : (slots : List (Option Station)) (older : List ℕ) (next : ℕ) (unit : UnitId) (s : Station) → unit ≢ units.Mem
    → waits_for unit (Some s) ≡ true → is_clear slots older s next ≡ true
clear_of slots older next unit s apart w =
    no_access slots older s next (no_bytes s s.address (memory_unit (pool_of s.instr.op)
    ∙ other_unit unit (unit_of s.instr.op) apart (and_parts (is_waiting s) (is_of unit (unit_of s.instr.op)) w).1))

wants_unit : (slots : List (Option Station)) (older : List ℕ) (next : ℕ) (unit : UnitId) (o : Option Station)
    → unit ≢ units.Mem → waits_for unit o ≡ is_number (unit_needed slots older next o) (place_of_unit unit)
wants_unit slots older next unit None apart = refl
wants_unit slots older next unit (Some s) apart = elim (cases_Bool (waits_for unit (Some s))) [
  | inr e ↦ e ∙ sym (wants_not slots older next unit (Some s) e)
  | inl e ↦ e ∙ sym (one_kind (is_waiting s) (is_clear slots older s next) (unit_of s.instr.op) unit e
      ∙ clear_of slots older next unit s apart e)
]

pub ready_for : (st : Pools) (next set : ℕ) (unit : UnitId) → AreBusy st.slots st.busy st.issue_numbers
    → IsSetOf (waits_for unit) st.slots set → unit ≢ units.Mem → AreStartableFor st next unit set
ready_for st next set unit filled of apart = record {
  inside = is_busy_there (waits_for unit) st.slots st.busy st.issue_numbers set refl filled of;
  wants = λ x l older younger by. of x l ∙ wants_unit st.slots older next unit (slot st.slots x) apart;
}

-- all that wait for a unit of a kind, if at most one operation waits
pub single_of : (unit : UnitId) (slots : List (Option Station)) (waiting set n : ℕ) (issue_numbers : List ℕ)
    → ((a b : ℕ) → a < 128 → b < 128 → has waiting a ≡ true → has waiting b ≡ true → a ≡ b)
    → IsSetOf waits slots waiting → 0 < n
    → ((x : ℕ) → x < 128 → has set x ≡ true → waits_for unit (slot slots x) ≡ true)
    → IsPicked set issue_numbers n set
single_of unit slots waiting set n issue_numbers single are some wait =
    single_picked set n issue_numbers some (λ a b l m e f. single a b l m (among a l e) (among b m f))
  where
    waits_too : (o : Option Station) → waits_for unit o ≡ true → waits o ≡ true
    waits_too o e = grind (arith, nat_tests)

    among : (x : ℕ) → x < 128 → has set x ≡ true → has waiting x ≡ true
    among x l e = are x l ∙ waits_too (slot slots x) (wait x l e)

pub all_of : (unit : UnitId) (slots : List (Option Station)) (set : ℕ) → IsSetOf (waits_for unit) slots set → (x : ℕ)
    → x < 128 → has set x ≡ true → waits_for unit (slot slots x) ≡ true
all_of unit slots set of x l e = sym (of x l) ∙ e

pub found_waiting : {st : Pools} {next waiting rest clear : ℕ} → IsSetOf (waits_for units.Mem) st.slots waiting
    → AreCleared st next waiting rest clear → (x : ℕ) → x < 128 → has clear x ≡ true
    → waits_for units.Mem (slot st.slots x) ≡ true
found_waiting of so x l e = sym (of x l) ∙ so.found x l e

-- the oldest of the operations that can start, of a kind of unit
pub record AreServedBy (config : Configuration) (st : Pools) (next : ℕ) (unit : UnitId) : Type 0 where
  pub ready : ℕ
  pub set : ℕ
  pub startable : AreStartableFor st next unit ready
  pub picked : IsPicked ready st.issue_numbers (option_of config unit).units set

abbrev pub are_served : (config : Configuration) (st : Pools) (next : ℕ) (unit : UnitId) (ready set : ℕ)
    → AreStartableFor st next unit ready → IsPicked ready st.issue_numbers (option_of config unit).units set
    → AreServedBy config st next unit
are_served config st next unit ready set startable picked =
    record { ready = ready; set = set; startable = startable; picked = picked }

-- those of each kind together
pub are_starting : {config : Configuration} {st : Pools} {next : ℕ} (all : ℕ)
    (alu : AreServedBy config st next units.Alu) (mul : AreServedBy config st next units.Mul)
    (div : AreServedBy config st next units.Div) (mem : AreServedBy config st next units.Mem)
    (bru : AreServedBy config st next units.Bru) → ((x : ℕ) → has all x
    ≡ (has alu.set x || (has mul.set x || (has div.set x || (has mem.set x || has bru.set x)))))
    → IsStarting config st next all
are_starting {config} {st} {next} all alu mul div mem bru together = record {
  startable = alu.ready ∷ mul.ready ∷ div.ready ∷ mem.ready ∷ bru.ready ∷ [];
  kinds = alu.set ∷ mul.set ∷ div.set ∷ mem.set ∷ bru.set ∷ [];
  are_startable = λ unit. (each unit).0;
  units = λ unit. (each unit).1;
  count = refl;
  all = λ x l. together x ∙ ap (λ z. has alu.set x || (has mul.set x || (has div.set x || (has mem.set x || z))))
      (sym (or_false (has bru.set x)));
}
  where
    each : (unit : UnitId) → AreStartableFor st next unit (slice_index (alu.ready ∷ mul.ready ∷ div.ready ∷ mem.ready
        ∷ bru.ready ∷ []) (place_of_unit unit)) × IsPicked (slice_index (alu.ready ∷ mul.ready ∷ div.ready ∷ mem.ready
        ∷ bru.ready ∷ []) (place_of_unit unit)) st.issue_numbers (option_of config unit).units (slice_index
        (alu.set ∷ mul.set ∷ div.set ∷ mem.set ∷ bru.set ∷ []) (place_of_unit unit))
    each units.Alu = (alu.startable, alu.picked)
    each units.Mul = (mul.startable, mul.picked)
    each units.Div = (div.startable, div.picked)
    each units.Mem = (mem.startable, mem.picked)
    each units.Bru = (bru.startable, bru.picked)

-- if nothing waits, nothing starts
pub none_starts : (config : Configuration) (st : Pools) (next waiting : ℕ) → AreBusy st.slots st.busy st.issue_numbers
    → IsSetOf waits st.slots waiting → waiting ≡ 0 → IsStarting config st next 0
none_starts config st next waiting filled of empty =
    are_starting 0 (are_served config st next units.Alu 0 0 (other units.Alu (λ e. absurd (cc))) (picked units.Alu))
    (are_served config st next units.Mul 0 0 (other units.Mul (λ e. absurd (cc))) (picked units.Mul))
    (are_served config st next units.Div 0 0 (other units.Div (λ e. absurd (cc))) (picked units.Div))
    (are_served config st next units.Mem 0 0
    (all_cleared filled (none_for units.Mem) (first_cleared st next 0 (none_for units.Mem)) refl) (picked units.Mem))
    (are_served config st next units.Bru 0 0 (other units.Bru (λ e. absurd (cc))) (picked units.Bru))
    (λ x. rw (none_in x) refl)
  where
    none_for : (unit : UnitId) → IsSetOf (waits_for unit) st.slots 0
    none_for unit = grind (arith, nat_tests)

    other : (unit : UnitId) → unit ≢ units.Mem → AreStartableFor st next unit 0
    other unit apart = ready_for st next 0 unit filled (none_for unit) apart

    picked : (unit : UnitId) → IsPicked 0 st.issue_numbers (option_of config unit).units 0
    picked unit = none_picked 0 _ st.issue_numbers refl
