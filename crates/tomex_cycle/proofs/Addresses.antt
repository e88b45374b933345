-- Which load or store gets its address in a cycle, by the recurrence.
use Rattle.std.proofs.lemmas.Bool.{MatchBool-at_true}
use Rattle.tomex_timing.proofs.Orders.{address_rises as timed_address_rises}
use Rattle.tomex_cycle.proofs.Words.{nat_lt, nat_le, if◌then◌else◌, ◌&&◌, ◌==◌, not, is_some, cases_Bool, nat_tests}
use Rattle.tomex_cycle.proofs.Words.{lt-ltb, leb-true, leb-false, lt-leb, and_parts, and_right, eq-eqb, Configuration}
use Rattle.tomex_cycle.proofs.Words.{Done, cycle_of, is_memory, last_address, AreTimed, IsTimed, IsLeast, can_address}
use Rattle.tomex_cycle.proofs.Words.{place_of, holds_place, station_of, clocks, Loaded, address_of, j_of, field_of}
use Rattle.tomex_cycle.proofs.Words.{with_address, is_there, Station, IsUpTo, eqb-true, eqb-false, ne_eqb}
use Rattle.tomex_cycle.proofs.Words.{get_or-set_same, get_or-set_other, length-set, step_pool, is_number, MakesAddress}
use Rattle.tomex_cycle.proofs.Words.{order_of, station_at, option_map, lacks_address, Pools, AreBusy, IsInIssueOrder}
use Rattle.tomex_cycle.proofs.Words.{slot, ℕ, ◌+◌, ◌<◌, ◌≤◌, ◌≡◌, Bool, true, false, arith, refl, List, [], ◌∷◌, Option}
use Rattle.tomex_cycle.proofs.Words.{Some, None, ap, inl, inr, ◌∙◌, sym, length, slice_index_or, slice_set, ◌++◌}
use Rattle.tomex_cycle.proofs.Words.{slice_index, least_test}
use Rattle.tomex_cycle.proofs.Truth.{some_not_none}
use Rattle.tomex_cycle.proofs.Fields.{there_test}
use Rattle.tomex_cycle.proofs.Places.{is_vacant, busy_at, older_up_to, AreLow, IsLow, low, place_low, vacant}
use Rattle.tomex_cycle.proofs.Places.{held_place, ShowsPart, shows_part, held_here, older_shown}
use Rattle.tomex_cycle.proofs.Runs.{reach}
use Rattle.tomex_cycle.proofs.IssueOrder.{first_waiting, next_address, where_base_is_there}
use Rattle.tomex_cycle.proofs.Orders.{order_is}

abbrev pub or_else : Option ℕ → Option ℕ → Option ℕ
or_else None y = y
or_else (Some x) y = Some x

-- the step is busy, and its address is still to come
abbrev pub waits_for_address : ℕ → Done → Bool
waits_for_address t d = nat_lt t d.at.end && (is_memory d.step && not (nat_le (cycle_of d.at.address) t))

-- the place of the oldest such step
abbrev pub chosen : ℕ → List Done → Option ℕ
chosen t [] = None
chosen t (d ∷ older) = or_else (chosen t older) (if waits_for_address t d then place_of d else None)

pub address_is : {config : Configuration} (d : Done) {older : List Done} → IsTimed config older d.step d.at
    → is_memory d.step ≡ true → IsLeast (can_address older d.step d.at.issue) (cycle_of d.at.address)
address_is d {older} timed e = MatchBool-at_true (IsLeast (can_address older d.step d.at.issue)
    (cycle_of d.at.address)) (d.at.address ≡ None) e timed.address

-- addresses are computed in program order
pub address_rises : {config : Configuration} (d : Done) {older : List Done} → IsTimed config older d.step d.at
    → is_memory d.step ≡ true → last_address older < cycle_of d.at.address
address_rises {config} d {older} timed e = (timed_address_rises config d older timed e).1

pub some_none_of : {A : Type 0} (x : A) (o : Option A) → is_some o ≡ true → o ≡ None → ⊥
some_none_of x o e f = grind (arith, nat_tests)

or_none : (a b : Option ℕ) → or_else a b ≡ None → (a ≡ None) × (b ≡ None)
or_none None b e = (refl, e)
or_none (Some x) b e = absurd (cc)

-- if none waits, all addresses are made
pub none_waits : {i : Loaded} {config : Configuration} (t : ℕ) (h : List Done) → IsUpTo i config t h
    → chosen t h ≡ None → last_address h ≤ t
none_waits t [] up e = omega arith
none_waits t (d ∷ older) up e =
    let two = or_none (chosen t older) (if waits_for_address t d then place_of d else None) e in
    elim (cases_Bool (is_memory d.step)) [
      | inr m ↦ rw m (none_waits t older (older_up_to up) two.0)
      | inl m ↦ rw m (elim (cases_Bool (nat_le (cycle_of d.at.address) t)) [
        | inl l ↦ leb-true _ _ l
        | inr l ↦
            let k : t < cycle_of d.at.address = leb-false _ _ l in
            let r : cycle_of d.at.address ≤ d.at.end = (reach d older up.lawful up.timed).address in
            let late : nat_lt t d.at.end ≡ true = lt-ltb t d.at.end (omega arith) in
            let f : place_of d ≡ None = rw (late, m, l) at two.1 in
            absurd (some_not_none (busy_at d up late).0 (sym (busy_at d up late).1 ∙ f))
      ])
    ]

pub or_else_none : (a : Option ℕ) → or_else a None ≡ a
or_else_none None = refl
or_else_none (Some x) = refl

-- what waits for its address is a busy access whose address is still to come
pub waits_so : (t : ℕ) (d : Done) → waits_for_address t d ≡ true
    → (nat_lt t d.at.end ≡ true) × (is_memory d.step ≡ true) × (t < cycle_of d.at.address)
waits_so t d w =
    let a = and_parts (nat_lt t d.at.end) (is_memory d.step && not (nat_le (cycle_of d.at.address) t)) w in
    let b = and_parts (is_memory d.step) (not (nat_le (cycle_of d.at.address) t)) a.1 in
    (a.0, b.0, not_le (cycle_of d.at.address) t b.1)
  where
    not_le : (a b : ℕ) → not (nat_le a b) ≡ true → b < a
    not_le a b e = grind (arith, nat_tests)

some_waits_by : {config : Configuration} (t y : ℕ) (d : Done) {older : List Done} (o : Option ℕ)
    → IsTimed config older d.step d.at → chosen t older ≡ o
    → ((z : ℕ) → chosen t older ≡ Some z → t < last_address older)
    → or_else o (if waits_for_address t d then place_of d else None) ≡ Some y → t < last_address (d ∷ older)
some_waits_by t y d {older} (Some z) timed e before f =
    let l : t < last_address older = before z e in
    elim (cases_Bool (is_memory d.step)) [
      | inr m ↦ rw m l
      | inl m ↦ let k : last_address older < cycle_of d.at.address = address_rises d timed m in
          rw m (omega arith)
    ]
some_waits_by t y d None timed e before f = elim (cases_Bool (waits_for_address t d)) [
  | inr w ↦ let g : None ≡ Some y = rw w at f in absurd (cc)
  | inl w ↦ let (busy, memory, late) = waits_so t d w in rw memory late
]

-- and if one waits, the last address is still to come
pub some_waits : (config : Configuration) (t y : ℕ) (h : List Done) → AreTimed config h → chosen t h ≡ Some y
    → t < last_address h
some_waits config t y [] timed e = absurd (cc)
some_waits config t y (d ∷ older) timed e =
    some_waits_by t y d (chosen t older) timed.0 refl (λ z f. some_waits config t z older timed.1 f) e

pub holds_by : (t y : ℕ) (d : Done) → place_of d ≡ Some y → waits_for_address t d ≡ true → holds_place t y d ≡ true
holds_by t y d e w = rw (e, (waits_so t d w).0, eq-eqb y y refl) refl

chosen_by : (t y : ℕ) (d : Done) (older : List Done) (o : Option ℕ) → chosen t older ≡ o
    → (chosen t older ≡ Some y → is_vacant t y older ≡ true → ⊥)
    → or_else o (if waits_for_address t d then place_of d else None) ≡ Some y → is_vacant t y (d ∷ older) ≡ true → ⊥
chosen_by t y d older o h5 h6 h7 h8 = grind (arith, nat_tests)

-- the place that is chosen is held
pub chosen_held : (t y : ℕ) (h : List Done) → chosen t h ≡ Some y → is_vacant t y h ≡ true → ⊥
chosen_held t y [] e free = cc
chosen_held t y (d ∷ older) e free = chosen_by t y d older (chosen t older) refl (chosen_held t y older) e free

-- the address test of the next cycle, if no older address is to come
pub test_is : {i : Loaded} {config : Configuration} (t u : ℕ) (d : Done) {older : List Done}
    → IsUpTo i config t (d ∷ older) → u ≡ t + 1 → is_memory d.step ≡ true → last_address older ≤ t
    → t < cycle_of d.at.address → is_there (field_of t older (j_of d.step)) ≡ (cycle_of d.at.address == u)
test_is t u d {older} up e m last late =
    let issued : d.at.issue ≤ t = up.issued.0 in
    let test : can_address older d.step d.at.issue u ≡ (cycle_of d.at.address == u) = least_test (can_address older
    d.step d.at.issue) (cycle_of d.at.address) u (address_is d up.timed.0 m) (omega arith) in
    let there = there_test t older (j_of d.step) (older_up_to up) in
    grind (arith, nat_tests)

-- A of a station by the address clock
abbrev pub a_by : ℕ → Done → Option ℕ
a_by t d = if is_memory d.step && nat_le (cycle_of d.at.address) t then Some (address_of d.step) else None

pub with_a : (i : Loaded) (u t : ℕ) (d : Done) (older : List Done) → a_by u d ≡ a_by t d
    → station_of i (clocks u u t) d older ≡ station_of i (clocks u t t) d older
with_a i u t d older e = rw e refl

pub a_none : (t : ℕ) (d : Done) → t < cycle_of d.at.address → a_by t d ≡ None
a_none t d l = rw (lt-leb (cycle_of d.at.address) t l, and_right (is_memory d.step) false refl) refl

pub given : (i : Loaded) (u t : ℕ) (d : Done) (older : List Done) → is_there (field_of t older (j_of d.step))
    ≡ (cycle_of d.at.address == u) → t < cycle_of d.at.address → u ≡ t + 1 → is_memory d.step ≡ true
    → station_of i (clocks u u t) d older ≡ with_address (station_of i (clocks u t t) d older)
given i u t d older there late e m = grind (arith, nat_tests)

-- The oldest load or store without an address gets it exactly when the recurrence says.

-- what a phase makes of a place
abbrev pub given_at : Option ℕ → ℕ → Option Station → Option Station
given_at None x s = s
given_at (Some y) x s = if y == x then option_map with_address s else s

given_other : (o : Option ℕ) (x : ℕ) (s : Option Station) → (o ≡ Some x → ⊥) → given_at o x s ≡ s
given_other None x s e = refl
given_other (Some y) x s e = rw (ne_eqb y x (λ (z : y ≡ x). e (ap (λ (k : ℕ). Some k) z))) refl

given_here : (o : Option ℕ) (x : ℕ) (s : Option Station) → o ≡ Some x → given_at o x s ≡ option_map with_address s
given_here o x s e = rw (e, eq-eqb x x refl) refl

idle_by : (t u cycle address : ℕ) (memory : Bool) → u ≡ t + 1 → (memory && not (nat_le cycle t)) ≡ false
    → (if memory && nat_le cycle u then Some address else None) ≡ (if memory && nat_le cycle t then Some address else
    None)
idle_by t u cycle address memory e w = grind (arith, nat_tests)

idle_same : (t u : ℕ) (d : Done) (x : ℕ) → holds_place t x d ≡ true → u ≡ t + 1 → waits_for_address t d ≡ false
    → a_by u d ≡ a_by t d
idle_same t u d x held e w =
    let busy : nat_lt t d.at.end ≡ true = (and_parts (is_number (place_of d) x) (nat_lt t d.at.end) held).1 in
    let f : (is_memory d.step && not (nat_le (cycle_of d.at.address) t)) ≡ false = rw busy at w in
    idle_by t u (cycle_of d.at.address) (address_of d.step) (is_memory d.step) e f

-- what doesn't hold the place isn't chosen there
free_by : (t x : ℕ) (d : Done) (o : Option ℕ) (s : Option Station) → holds_place t x d ≡ false
    → given_at o x s ≡ given_at (or_else o (if waits_for_address t d then place_of d else None)) x s
free_by t x d o s h5 = grind (arith, nat_tests)

-- a busy step's station, if an older step waits or none does
held_by : {i : Loaded} {config : Configuration} (t u x : ℕ) (d : Done) (older : List Done) (o : Option ℕ)
    → IsUpTo i config t (d ∷ older) → u ≡ t + 1 → holds_place t x d ≡ true → chosen t older ≡ o → Some
    (station_of i (clocks u u t) d older) ≡ given_at (or_else o (if waits_for_address t d then place_of d else None)) x
    (Some (station_of i (clocks u t t) d older))
held_by {i} {config} t u x d older (Some y) up e held c =
    let free : is_vacant t x older ≡ true = vacant d older t x up (omega arith) (and_parts (is_number (place_of d) x)
    (nat_lt t d.at.end) held).0 in
    let other : Some y ≡ Some x → ⊥ = λ z. chosen_held t x older (c ∙ z) free in
    let last : t < last_address older = some_waits config t y older up.timed.1 c in
    let same : a_by u d ≡ a_by t d = elim (cases_Bool (is_memory d.step)) [
      | inr m ↦ rw m refl
      | inl m ↦ let k : last_address older < cycle_of d.at.address = address_rises d up.timed.0 m in
          a_none u d (omega arith) ∙ sym (a_none t d (omega arith))
    ] in
    ap (λ (k : Station). Some k) (with_a i u t d older same)
    ∙ sym (given_other (Some y) x (Some (station_of i (clocks u t t) d older)) other)
held_by {i} t u x d older None up e held c = elim (cases_Bool (waits_for_address t d)) [
  | inr w ↦ rw w (ap (λ (k : Station). Some k) (with_a i u t d older (idle_same t u d x held e w)))
  | inl w ↦
      let (busy, memory, late) = waits_so t d w in
      let there = test_is t u d up e memory (none_waits t older (older_up_to up) c) late in
      rw (w, given_here (place_of d) x (Some (station_of i (clocks u t t) d older)) (held_place t x d held))
      (ap (λ (k : Station). Some k) (given i u t d older there late e memory))
]

-- the chosen place gets its address, and no other
pub addresses_at : {i : Loaded} {config : Configuration} (t u x : ℕ) (h : List Done) → IsUpTo i config t h → u ≡ t + 1
    → station_at i (clocks u u t) h x ≡ given_at (chosen t h) x (station_at i (clocks u t t) h x)
addresses_at t u x [] up e = refl
addresses_at {i} t u x (d ∷ older) up e = elim (cases_Bool (holds_place t x d)) [
  | inl held ↦ rw held (held_by t u x d older (chosen t older) up e held refl)
  | inr free ↦ rw free (addresses_at t u x older (older_up_to up) e
      ∙ free_by t x d (chosen t older) (station_at i (clocks u t t) older x) free)
]

first-append : (slots : List (Option Station)) (xs : List ℕ) (x : ℕ) → first_waiting slots (xs ++ (x ∷ [])) ≡ or_else
    (first_waiting slots xs) (if lacks_address (slot slots x) then Some x else None)
first-append slots [] x = refl
first-append slots (y ∷ xs) x = elim (cases_Bool (lacks_address (slot slots y))) [
  | inl e ↦ rw e refl
  | inr e ↦ rw e (first-append slots xs x)
]

lacks_by : (memory made : Bool) (address : ℕ)
    → (memory && not (is_some (if memory && made then Some address else None))) ≡ (memory && not made)
lacks_by memory made address = grind (arith, nat_tests)

pub order_here : (t x : ℕ) (d : Done) (older : List Done) → place_of d ≡ Some x → nat_lt t d.at.end ≡ true
    → order_of t (d ∷ older) ≡ order_of t older ++ (x ∷ [])
order_here t x d older e l = rw (l, e) refl

-- the pass over the order finds what the history says
pub waiting_is : {i : Loaded} {config : Configuration} {t u : ℕ} {st : Pools} (part : List Done)
    → IsUpTo i config t part → ShowsPart i (clocks u t t) st part
    → first_waiting st.slots (order_of t part) ≡ chosen t part
waiting_is [] up shown = refl
waiting_is {t = t} {st = st} (d ∷ older) up shown =
    let before : first_waiting st.slots (order_of t older) ≡ chosen t older = waiting_is older (older_up_to up)
    (older_shown shown) in
    elim (cases_Bool (nat_lt t d.at.end)) [
      | inr l ↦ rw l (before ∙ sym (or_else_none (chosen t older)))
      | inl l ↦
          let (x, place, held) = busy_at d up l in
          let same : lacks_address (slot st.slots x) ≡ waits_for_address t d = rw ((held_here shown x held).slot, l)
          (lacks_by (is_memory d.step) (nat_le (cycle_of d.at.address) t) (address_of d.step)) in
          ap (first_waiting st.slots) (order_here t x d older place l)
          ∙ (first-append st.slots (order_of t older) x ∙ rw (before, same, place) refl)
    ]

set_at_place : (xs : List (Option Station)) (x y : ℕ) (o : Option Station) → x < length xs
    → o ≡ option_map with_address (slice_index_or xs x None)
    → slice_index_or (slice_set xs x o) y None ≡ given_at (Some x) y (slice_index_or xs y None)
set_at_place xs x y o l same = elim (cases_Bool (x == y)) [
  | inl e ↦ let f : x ≡ y = eqb-true x y e in rw (e, ← f) (get_or-set_same xs x o None l ∙ same)
  | inr e ↦ rw e (get_or-set_other xs x y o None (λ z. eqb-false x y e (sym z)))
]

-- the phase, by the search for the next address
pub made_none : (next : ℕ) (old : Pools) → AreBusy old.slots old.busy old.issue_numbers
    → ((order : List ℕ) → IsInIssueOrder old.busy old.issue_numbers order → None ≡ next_address old.slots order)
    → MakesAddress next old old
made_none next old filled none i config h t e up shown =
    let by = order_is up (omega arith) shown filled in
    let waits = waiting_is h up (shows_part up (omega arith) shown) in
    record {
      places = shown.places;
      slots = λ x l. shown.slots x l ∙ sym (addresses_at t next x h up e
          ∙ sym (unmoved i t next x h old (chosen t h) (rw waits at (none (order_of t h) by)) (shown.slots x l)));
      order_count = shown.order_count;
      issue_numbers = shown.issue_numbers;
    }
  where
    unmoved : (i : Loaded) (t next x : ℕ) (h : List Done) (old : Pools) (o : Option ℕ)
        → None ≡ where_base_is_there old.slots o → slot old.slots x ≡ station_at i (clocks next t t) h x
        → station_at i (clocks next t t) h x ≡ given_at o x (station_at i (clocks next t t) h x)
    unmoved i t next x h old o e f = grind (arith, nat_tests)

low_by : (t x : ℕ) (d : Done) (o : Option ℕ) → IsLow d → ((y : ℕ) → o ≡ Some y → y < 96)
    → or_else o (if waits_for_address t d then place_of d else None) ≡ Some x → x < 96
low_by t x d (Some y) few before e = let f : y ≡ x = cc in rw (← f) (before y refl)
low_by t x d None few before e = elim (cases_Bool (waits_for_address t d)) [
  | inr w ↦ let z : None ≡ Some x = rw w at e in absurd (cc)
  | inl w ↦ let f : place_of d ≡ Some x = rw w at e in place_low (step_pool d.step) d.at.station x few f
]

chosen_low : (t x : ℕ) (h : List Done) → AreLow h → chosen t h ≡ Some x → x < 96
chosen_low t x [] few e = absurd (cc)
chosen_low t x (d ∷ older) few e = low_by t x d (chosen t older) few.0 (λ y f. chosen_low t y older few.1 f) e

pub made_some : (next x : ℕ) (old new : Pools) (o : Option Station) → AreBusy old.slots old.busy old.issue_numbers
    → ((order : List ℕ) → IsInIssueOrder old.busy old.issue_numbers order → Some x ≡ next_address old.slots order)
    → o ≡ option_map with_address (slot old.slots x) → new.slots ≡ slice_set old.slots x o
    → new.issue_numbers ≡ old.issue_numbers → MakesAddress next old new
made_some next x old new o filled some same slots issue_numbers i config h t e up shown =
    let by = order_is up (omega arith) shown filled in
    let waits = waiting_is h up (shows_part up (omega arith) shown) in
    let c : chosen t h ≡ Some x = found x old.slots (chosen t h) (rw waits at (some (order_of t h) by)) in
    let small : x < 96 = chosen_low t x h (low h up) c in
    record {
      places = ap length slots ∙ (length-set old.slots x o ∙ shown.places);
      slots = λ y l. ap (λ xs. slice_index_or xs y None) slots ∙ (set_at_place old.slots x y o (omega arith) same ∙ (ap
          (given_at (Some x) y) (shown.slots y l) ∙ sym (addresses_at t next y h up e ∙ rw c refl)));
      order_count = ap length issue_numbers ∙ shown.order_count;
      issue_numbers = λ y l. ap (λ xs. slice_index xs y) issue_numbers ∙ shown.issue_numbers y l;
    }
  where
    found : (x : ℕ) (slots : List (Option Station)) (o : Option ℕ) → Some x ≡ where_base_is_there slots o → o ≡ Some x
    found x slots o e = grind (arith, nat_tests)
