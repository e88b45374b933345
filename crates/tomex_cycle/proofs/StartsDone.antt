-- Memory after the stores that start in a cycle.
use Rattle.tomex_cycle.proofs.StartsBegun.{all_begun, all_stored, first_begun, first_stored}
use Rattle.tomex_timing.proofs.Orders.{conflict_at}
use Rattle.tomex_cycle.proofs.Words.{nat_lt, nat_le, if◌then◌else◌, ◌&&◌, ◌==◌, not, is_some, cases_Bool, nat_tests}
use Rattle.tomex_cycle.proofs.Words.{ltb-true, lt-ltb, le-leb, lt-leb, and_parts, or_left, eqb-true, eqb-false, ne_eqb}
use Rattle.tomex_cycle.proofs.Words.{Loaded, Configuration, Step, covers, overwrites, stored_byte, is_number, is_store}
use Rattle.tomex_cycle.proofs.Words.{step_pool, step_unit, Done, are_conflicts_finished, conflicts, byte_at, stored_at}
use Rattle.tomex_cycle.proofs.Words.{written_by, clocks, holds_place, place_of, station_at, step_in, Station, has, ◌||◌}
use Rattle.tomex_cycle.proofs.Words.{IsTimed, IsUpTo, slot, both_ways, byte_in, Bytes, Fault, MakesStarts, IsInside}
use Rattle.tomex_cycle.proofs.Words.{AllCanBegin, AllInside, CanBegin, HaveBegun, HaveStored, station_after_start}
use Rattle.tomex_cycle.proofs.Words.{IsStarting, AreLow}
use Rattle.tomex_cycle.proofs.Words.{ShowsMemory, station_of, Pools, AreBusy, place_of_unit, UnitId, suc, zero, ℕ, ◌+◌}
use Rattle.tomex_cycle.proofs.Words.{◌<◌, ◌≤◌, ◌≡◌, ◌∙◌, Bool, true, false, arith, refl, List, [], ◌∷◌, Option, Some}
use Rattle.tomex_cycle.proofs.Words.{None, ap, sym, inl, inr, length, subst, slice_index}
use Rattle.tomex_cycle.proofs.Places.{low, place_low, is_vacant, vacant, busy_at, older_up_to, place_or_none}
use Rattle.tomex_cycle.proofs.StartsMade.{starts_clear, step_is, begins_at, inside_is, some_is}
use Rattle.tomex_cycle.proofs.StartsPicked.{starts_at, starts_in, starting_is, five}
use Rattle.tomex_cycle.proofs.Runs.{reach, store_unit}
use Rattle.tomex_cycle.proofs.Truth.{or_cases, some_not_none}
use Rattle.tomex_rvdec.specs.declared.pool.UnitId.TheVariants as units

-- the byte that a step leaves at an address as it starts in the cycle, if any
abbrev pub leaves : ℕ → ℕ → Done → Option ℕ
leaves u a d = if starts_in u d && overwrites d.step a then Some (stored_byte d.step a) else None

-- and what holds a place
abbrev pub left_at : ℕ → ℕ → ℕ → List Done → ℕ → Option ℕ
left_at t u a [] x = None
left_at t u a (d ∷ older) x = if holds_place t x d then leaves u a d else left_at t u a older x

-- at most one store on a byte starts in a cycle
pub data Left (i : Loaded) (t u a : ℕ) (h : List Done) : Type 0 where
  none : ((x : ℕ) → left_at t u a h x ≡ None) → byte_at i u h a ≡ byte_at i t h a → Left i t u a h
  one : (y v : ℕ) → y < 96 → left_at t u a h y ≡ Some v → ((x : ℕ) → (x ≡ y → ⊥) → left_at t u a h x ≡ None)
      → byte_at i u h a ≡ v → ((x : Step) (s : ℕ) → overwrites x a ≡ true → are_conflicts_finished h x s ≡ true → u < s)
      → Left i t u a h

left_free : (t u a x : ℕ) (h : List Done) → is_vacant t x h ≡ true → left_at t u a h x ≡ None
left_free t u a x [] e = refl
left_free t u a x (d ∷ older) e =
    let two = and_parts (not (holds_place t x d)) (is_vacant t x older) e in
    elim (cases_Bool (holds_place t x d)) [
      | inr h ↦ rw h (left_free t u a x older two.1)
      | inl h ↦ let g : not true ≡ true = rw h at two.0 in absurd (cc)
    ]

-- a younger store on a byte starts after an older one has finished
later_one : (d : Done) (x : Step) (s a : ℕ) → overwrites d.step a ≡ true → overwrites x a ≡ true
    → (not (conflicts d.step x) || nat_lt d.at.finish s) ≡ true → d.at.finish < s
later_one d x s a o p e =
    let q = and_parts (is_store d.step) (covers d.step a) o in
    let r = and_parts (is_store x) (covers x a) p in
    let k : conflicts d.step x ≡ true = conflict_at d.step x a q.1 r.1 (or_left (is_store d.step) (is_store x) q.0) in
    let f : (not true || nat_lt d.at.finish s) ≡ true = rw k at e in
    ltb-true d.at.finish s f

-- a step that leaves no byte changes none in later cycles
made_same : (t u a : ℕ) (d : Done) {older : List Done} {config : Configuration} → IsTimed config older d.step d.at
    → d.at.issue ≤ t → u ≡ t + 1 → (starts_in u d && overwrites d.step a) ≡ false
    → (overwrites d.step a && nat_le d.at.start u) ≡ (overwrites d.step a && nat_le d.at.start t)
made_same t u a d timed issued e quiet = grind (arith, nat_tests)

-- a step on top that leaves a byte
left_here : {i : Loaded} {config : Configuration} (t u a : ℕ) (d : Done) (older : List Done)
    → IsUpTo i config t (d ∷ older) → u ≡ t + 1 → (starts_in u d && overwrites d.step a) ≡ true → Left i t u a older
    → Left i t u a (d ∷ older)
left_here t u a d older up e leaves_it (one y v small here others byte later) =
    let two = and_parts (starts_in u d) (overwrites d.step a) leaves_it in
    let unit = and_parts (is_some (step_unit d.step)) (d.at.start == u) two.0 in
    let at : d.at.start ≡ u = eqb-true _ _ unit.1 in
    let l : u < d.at.start = later d.step d.at.start two.1 (starts_clear d up.timed.0 unit.0) in
    absurd (omega arith)
left_here t u a d older up e leaves_it (none others byte) =
    let two = and_parts (starts_in u d) (overwrites d.step a) leaves_it in
    let unit = and_parts (is_some (step_unit d.step)) (d.at.start == u) two.0 in
    let at : d.at.start ≡ u = eqb-true _ _ unit.1 in
    let r = reach d older up.lawful up.timed in
    let busy : nat_lt t d.at.end ≡ true = lt-ltb t d.at.end (omega arith) in
    let (y, place, held) = busy_at d up busy in
    one y (stored_byte d.step a) (place_low (step_pool d.step) d.at.station y (low (d ∷ older) up).0 place)
    (rw (held, leaves_it) refl) (λ x other. rw (place, ne_eqb y x (λ z. other (sym z))) (others x))
    (rw (two.1, le-leb d.at.start u (omega arith)) refl) (λ x s o clear. let k : d.at.finish < s =
    later_one d x s a two.1 o (and_parts (not (conflicts d.step x) || nat_lt d.at.finish s)
    (are_conflicts_finished older x s) clear).0 in omega arith)

-- and one that leaves none
left_on : {i : Loaded} {config : Configuration} (t u a : ℕ) (d : Done) (older : List Done)
    → IsUpTo i config t (d ∷ older) → u ≡ t + 1 → (starts_in u d && overwrites d.step a) ≡ false → Left i t u a older
    → Left i t u a (d ∷ older)
left_on t u a d older up e quiet (none others byte) = none (λ x. elim
    (cases_Bool (holds_place t x d)) [ inl h ↦ rw (h, quiet) refl | inr h ↦ rw h (others x) ])
    (rw (made_same t u a d up.timed.0 up.issued.0 e quiet, byte) refl)
left_on t u a d older up e quiet (one y v small here others byte later) =
    let free : holds_place t y d ≡ false = elim (cases_Bool (holds_place t y d)) [
      | inr h ↦ h
      | inl h ↦
          let vacant_there = vacant d older t y up (omega arith) (and_parts (is_number (place_of d) y)
          (nat_lt t d.at.end) h).0 in
          absurd (some_not_none v (sym here ∙ left_free t u a y older vacant_there))
    ] in
    let unmade : (overwrites d.step a && nat_le d.at.start u) ≡ false = elim (cases_Bool (overwrites d.step a)) [
      | inr o ↦ rw o refl
      | inl o ↦
          let store : is_store d.step ≡ true = (and_parts (is_store d.step) (covers d.step a) o).0 in
          let l : u < d.at.start = later d.step d.at.start o (starts_clear d up.timed.0 (store_unit d.step store)) in
          rw o (lt-leb d.at.start u l)
    ] in
    one y v small (rw free here) (λ x other. elim (cases_Bool (holds_place t x d))
    [ inl h ↦ rw (h, quiet) refl | inr h ↦ rw h (others x other) ]) (rw unmade byte) (λ x s o clear. later x
    s o (and_parts (not (conflicts d.step x) || nat_lt d.at.finish s) (are_conflicts_finished older x s) clear).1)

pub left_is : {i : Loaded} {config : Configuration} (t u a : ℕ) (h : List Done) → IsUpTo i config t h → u ≡ t + 1
    → Left i t u a h
left_is t u a [] up e = none (λ x. refl) refl
left_is t u a (d ∷ older) up e = elim (cases_Bool (starts_in u d && overwrites d.step a)) [
  | inl l ↦ left_here t u a d older up e l (left_is t u a older (older_up_to up) e)
  | inr l ↦ left_on t u a d older up e l (left_is t u a older (older_up_to up) e)
]

-- By place.

abbrev pub left_in : Bool → Option Station → ℕ → Option ℕ
left_in picked None a = None
left_in picked (Some s) a = if picked && overwrites (step_in s) a then Some (stored_byte (step_in s) a) else None

left_slot : {i : Loaded} {config : Configuration} (t u a x : ℕ) (part : List Done) → IsUpTo i config t part → u ≡ t + 1
    → left_in (starts_at t u part x) (station_at i (clocks u t t) part x) a ≡ left_at t u a part x
left_slot t u a x [] up e = refl
left_slot t u a x (d ∷ older) up e = elim (cases_Bool (holds_place t x d)) [
  | inr h ↦ rw h (left_slot t u a x older (older_up_to up) e)
  | inl h ↦ elim (cases_Bool (starts_in u d)) [
    | inr s ↦ rw (h, s) refl
    | inl s ↦ rw (h, s)
        (ap (λ (z : Step). if overwrites z a then Some (stored_byte z a) else None) (step_is t u d older up e s))
  ]
]

abbrev or_value : Option ℕ → ℕ → ℕ
or_value None b = b
or_value (Some v) b = v

stored_is : (picked : Bool) (o : Option Station) (a before : ℕ) (left : Option ℕ) → left_in picked o a ≡ left
    → stored_at picked o a before ≡ or_value left before
stored_is picked o a before left h5 = grind (arith, nat_tests)

written_none : (slots : List (Option Station)) (picked : ℕ) (byte : ℕ → ℕ) (k a : ℕ) → k ≤ 96
    → ((x : ℕ) → x < 96 → left_in (has picked x) (slot slots x) a ≡ None) → written_by slots picked byte k a ≡ byte a
written_none slots picked byte zero a l none_left = refl
written_none slots picked byte (suc k) a l none_left =
    stored_is (has picked k) (slot slots k) a (written_by slots picked byte k a) None
    (none_left k (omega arith)) ∙ written_none slots picked byte k a (omega arith) none_left

less_one : (k y : ℕ) → (k ≡ y → ⊥) → y < suc k → y < k
less_one k y other l = grind (arith, nat_tests)

written_one : (slots : List (Option Station)) (picked : ℕ) (byte : ℕ → ℕ) (k a y v : ℕ) → k ≤ 96 → y < k
    → left_in (has picked y) (slot slots y) a ≡ Some v
    → ((x : ℕ) → x < 96 → (x ≡ y → ⊥) → left_in (has picked x) (slot slots x) a ≡ None)
    → written_by slots picked byte k a ≡ v
written_one slots picked byte zero a y v l below here others = absurd (omega arith)
written_one slots picked byte (suc k) a y v l below here others = elim (cases_Bool (k == y)) [
  | inl e ↦
      let same : k ≡ y = eqb-true _ _ e in
      stored_is (has picked k) (slot slots k) a (written_by slots picked byte k a) (Some v)
      (rw same here)
  | inr e ↦
      let other : k ≡ y → ⊥ = eqb-false _ _ e in
      stored_is (has picked k) (slot slots k) a (written_by slots picked byte k a) None
      (others k (omega arith) other) ∙ written_one slots picked byte k a y v (omega arith)
      (less_one k y other below) here others
]

written_left : (i : Loaded) (t u a : ℕ) (h : List Done) (slots : List (Option Station)) (picked : ℕ) (byte : ℕ → ℕ)
    → ((x : ℕ) → x < 96 → left_in (has picked x) (slot slots x) a ≡ left_at t u a h x) → byte a ≡ byte_at i t h a
    → Left i t u a h → written_by slots picked byte 96 a ≡ byte_at i u h a
written_left i t u a h slots picked byte same before (none others made) =
    written_none slots picked byte 96 a (omega arith) (λ x l. same x l ∙ others x) ∙ (before ∙ sym made)
written_left i t u a h slots picked byte same before (one y v small here others made later) = written_one slots picked
    byte 96 a y v (omega arith) small (same y small ∙ here) (λ x l other. same x l ∙ others x other) ∙ sym made

-- the stores of the places that start make memory what it is after the cycle's starts
pub written_is : {i : Loaded} {config : Configuration} {t u : ℕ} (a : ℕ) (h : List Done) (slots : List (Option Station))
    (picked : ℕ) (byte : ℕ → ℕ) → IsUpTo i config t h → u ≡ t + 1
    → ((x : ℕ) → x < 96 → has picked x ≡ starts_at t u h x)
    → ((x : ℕ) → x < 96 → slot slots x ≡ station_at i (clocks u t t) h x) → byte a ≡ byte_at i t h a
    → written_by slots picked byte 96 a ≡ byte_at i u h a
written_is {i} {t = t} {u} a h slots picked byte up e picks shows before = written_left i t u a h slots picked byte
    (λ x l. rw (picks x l, shows x l) (left_slot t u a x h up e)) before (left_is t u a h up e)

-- The phase of starts.

unstarted : (t u start finish : ℕ) → u ≡ t + 1 → (start == u) ≡ true
    → (if nat_le start t then Some finish else None) ≡ None
unstarted t u start finish e f = let at : start ≡ u = eqb-true start u f in rw (lt-leb start t (omega arith)) refl

-- what starts has a unit and an access inside memory
can_begin : {i : Loaded} {config : Configuration} {t : ℕ} (u x : ℕ) {h : List Done} (part : List Done) (m : Bytes)
    → IsUpTo i config t part → u ≡ t + 1 → ShowsMemory i t h m → starts_at t u part x ≡ true
    → (s : Station) × (station_at i (clocks t t t) part x ≡ Some s) × CanBegin m s
can_begin u x [] m up e shown starts = absurd (cc)
can_begin {i} {t = t} u x (d ∷ older) m up e shown starts = elim (cases_Bool (holds_place t x d)) [
  | inr free ↦
      let r = can_begin u x older m (older_up_to up) e shown (rw free at starts) in
      (r.0, rw free r.1, r.2)
  | inl held ↦
      let s : starts_in u d ≡ true = rw held at starts in
      let same : step_in (station_of i (clocks t t t) d older) ≡ d.step = step_is t u d older up e s in (
        station_of i (clocks t t t) d older,
        rw held refl,
        record {
          inside = subst (λ (y : Step). IsInside m y) (sym same) (inside_is u d older up.past s shown);
          not_started = unstarted t u d.at.start d.at.finish e
              (and_parts (is_some (step_unit d.step)) (d.at.start == u) s).1;
          unit = some_is (step_unit d.step) (and_parts (is_some (step_unit d.step)) (d.at.start == u) s).0;
        },
      )
]

inside_begun : (config : Configuration) (u : ℕ) (m : Bytes) (s0 s : Station)
    → Some (station_after_start config u m s0) ≡ Some s
    → IsInside m (step_in s0) → IsInside m (step_in s)
inside_begun config u m s0 s e inside = let f : station_after_start config u m s0 ≡ s = cc in rw (← f) inside

all_inside : {config : Configuration} {u : ℕ} {m : Bytes} {picked : ℕ} {old new : Pools}
    → AllCanBegin m picked old.slots → HaveBegun config u m picked 96 old new → AllInside m picked new.slots
all_inside {config} {u} {m} {new} can made x l pick s e =
    let one = can x l pick in
    let f = made.slots x l ∙ rw (lt-ltb x 96 l, pick, one.1) refl in
    inside_begun config u m one.0 s (sym f ∙ e) one.2.inside

pub low_of : (st : Pools) (x : ℕ) → AreBusy st.slots st.busy st.issue_numbers → x < 128 → has st.busy x ≡ true → x < 96
low_of st x filled l e = elim (place_or_none st.slots x filled.places) [
  | inl k ↦ k
  | inr past ↦ absurd (both_ways (has st.busy x) (filled.each x l ∙ ap is_some past) e)
]

-- what starts is busy
starting_low : {config : Configuration} {st : Pools} {next starting : ℕ} → IsStarting config st next starting
    → AreBusy st.slots st.busy st.issue_numbers → (x : ℕ) → x < 128 → has starting x ≡ true → x < 96
starting_low {st} begins filled x l e =
    let kind : (unit : UnitId) → has (slice_index begins.kinds (place_of_unit unit)) x ≡ true → has st.busy x ≡ true =
    λ unit k. (begins.are_startable unit).inside x l ((begins.units unit).inside x l k) in
    low_of st x filled l (elim (or_cases _ _ (sym (five begins.kinds x begins.count) ∙ (sym (begins.all x l) ∙ e))) [
      | inl a ↦ kind units.Alu a
      | inr r ↦ elim (or_cases _ _ r) [
        | inl a ↦ kind units.Mul a
        | inr r ↦ elim (or_cases _ _ r) [
          | inl a ↦ kind units.Div a
          | inr r ↦ elim (or_cases _ _ r) [
            | inl a ↦ kind units.Mem a
            | inr r ↦ elim (or_cases _ _ r) [
              | inl a ↦ kind units.Bru a
              | inr r ↦ absurd (cc)
            ]
          ]
        ]
      ]
    ])

pub start_made : (config : Configuration) (next : ℕ) (old new : Pools) (m written : Bytes) (fault : Option Fault)
    (picked : ℕ) → IsStarting config old next picked → AreBusy old.slots old.busy old.issue_numbers
    → (length old.slots ≡ 96 → AreLow picked → AllCanBegin m picked old.slots
    → HaveBegun config next m picked 96 old new)
    → (length old.slots ≡ 96 → AreLow picked → AllCanBegin m picked old.slots → fault ≡ None)
    → (AreLow picked → AllInside m picked new.slots → HaveStored new.slots picked 96 m written)
    → MakesStarts config next old m fault new written
start_made config next old new m written fault picked starting filled begins good writes i h t e up shown memory =
    let picks : (x : ℕ) → x < 96 → has picked x ≡ starts_at t next h x = λ x l. starting_is x up shown filled starting e
    (omega arith) in
    let low : AreLow picked = λ x l k. starting_low starting filled x l k in
    let can : AllCanBegin m picked old.slots = λ x l pick.
    let r = can_begin next x h m up e memory (sym (picks x l) ∙ pick) in
    (r.0, shown.slots x l ∙ r.1, r.2) in
    let made : HaveBegun config next m picked 96 old new = begins shown.places low can in
    let slots : (x : ℕ) → x < 96 → slot new.slots x ≡ station_at i (clocks next t t) h x = λ x l. made.slots x l
    ∙ (rw (lt-ltb x 96 l, picks x l, shown.slots x l) refl ∙ sym (begins_at t next x [] h m up e memory)) in
    let stored : HaveStored new.slots picked 96 m written = writes low (all_inside can made) in
    let base : m.base ≡ i.window.base = memory.base in (
      good shown.places low can,
      record {
        places = made.places;
        slots = slots;
        order_count = ap length made.issue_numbers ∙ shown.order_count;
        issue_numbers = λ x l. ap (λ xs. slice_index xs x) made.issue_numbers ∙ shown.issue_numbers x l;
      },
      record {
        base = stored.base ∙ memory.base;
        size = stored.size ∙ memory.size;
        bytes = λ a from to. stored.bytes a (omega arith)
            ∙ written_is a h new.slots picked (byte_in m) up e picks slots (memory.bytes a from to);
      },
    )

-- If no operation starts, nothing changes.

pub start_none : {config : Configuration} {next starting : ℕ} {old : Pools} (m : Bytes)
    → IsStarting config old next starting → AreBusy old.slots old.busy old.issue_numbers → starting ≡ 0
    → MakesStarts config next old m None old m
start_none {config} {next} {old = old} m begins filled e = start_made config next old old m m None 0 (rw e at begins)
    filled (λ count low can. all_begun refl (first_begun config next m 0 old count low can)) (λ count low can. refl)
    (λ low inside. all_stored low refl (first_stored old.slots 0 m))
