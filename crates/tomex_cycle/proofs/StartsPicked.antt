-- The tests that an operation passes as it starts are those of the recurrence: operands, address, older accesses.
use Rattle.tomex_cycle.proofs.Words.{nat_lt, nat_le, if◌then◌else◌, ◌&&◌, not, is_some, cases_Bool, nat_tests}
use Rattle.tomex_cycle.proofs.Words.{ltb-false, lt-ltb, or_right, Loaded, Configuration, Step, address_of, bytes_of}
use Rattle.tomex_cycle.proofs.Words.{is_store, j_of, k_of, Tag, Done, cycle_of, is_memory, last_address, source_end}
use Rattle.tomex_cycle.proofs.Words.{IsTimed, IsLeast, are_conflicts_finished, can_address, conflicts, field_from}
use Rattle.tomex_cycle.proofs.Words.{is_clear, clocks, order_of, station_of, no_option, is_finished_before, lets_pass}
use Rattle.tomex_cycle.proofs.Words.{bytes_in, is_waiting, step_in, is_there, value_in, Pools, Station, ◌||◌, IsUpTo}
use Rattle.tomex_cycle.proofs.Words.{slot, ◌==◌, count_by, ltb-true, and_parts, and_right, ne_eqb, option_of, UnitId}
use Rattle.tomex_cycle.proofs.Words.{place_of_unit, is_number, step_unit, unit_with_pool, is_of, can_start, has_unit}
use Rattle.tomex_cycle.proofs.Words.{unit_needed, kind_if, kind_of, IsStarting, ShowsStations, holds_place, place_of}
use Rattle.tomex_cycle.proofs.Words.{AreBusy, IsInIssueOrder, has, onto_end, ℕ, ◌+◌, ◌<◌, ◌≤◌, ◌≡◌, ◌∙◌, Bool, true}
use Rattle.tomex_cycle.proofs.Words.{false, arith, refl, List, [], ◌∷◌, ◌++◌, Option, Some, None, ap, sym, inl, inr}
use Rattle.tomex_cycle.proofs.Words.{append-nil, length, slice_index, append_assoc, MatchBool-at_false, bytes_of_memory}
use Rattle.tomex_cycle.proofs.Words.{share_none, least_test}
use Rattle.tomex_cycle.proofs.Addresses.{order_here, address_rises}
use Rattle.tomex_cycle.proofs.Runs.{reach, start_least}
use Rattle.tomex_cycle.proofs.Fields.{there_test}
use Rattle.tomex_cycle.proofs.Places.{ShowsPart, busy_at, held_here, older_shown, older_up_to, is_vacant, vacant}
use Rattle.tomex_cycle.proofs.Places.{held_place, shows_part}
use Rattle.tomex_cycle.specs.Starts.{is_among, AreStartableFor}
use Rattle.tomex_cycle.proofs.IssueOrder.{no_access}
use Rattle.tomex_cycle.proofs.Orders.{AreAlone, goes_at, AreServed, Serves, picked_goes, order_is}
use Rattle.tomex_rvdec.specs.declared.pool.UnitId.TheVariants as units

and_swap : (a b c : Bool) → (a && (b && c)) ≡ (b && (a && c))
and_swap a b c = grind (arith, nat_tests)

clear-append : (slots : List (Option Station)) (xs : List ℕ) (x : ℕ) (s : Station) (next : ℕ)
    → is_clear slots (xs ++ (x ∷ [])) s next ≡ (lets_pass (slot slots x) s next && is_clear slots xs s next)
clear-append slots [] x s next = refl
clear-append slots (y ∷ xs) x s next = rw (clear-append slots xs x s next)
    (and_swap (lets_pass (slot slots y) s next) (lets_pass (slot slots x) s next) (is_clear slots xs s next))

-- Readiness.

addressed_is : (memory : Bool) (a t u address : ℕ) → u ≡ t + 1 → (memory ≡ false → a ≡ 0)
    → (not memory || is_some (if memory && nat_le a t then Some address else None)) ≡ nat_lt a u
addressed_is memory a t u address e none = grind (arith, nat_tests)

pub no_address : {config : Configuration} (d : Done) {older : List Done} → IsTimed config older d.step d.at
    → is_memory d.step ≡ false → cycle_of d.at.address ≡ 0
no_address d {older} timed e =
    let z : d.at.address ≡ None = MatchBool-at_false (IsLeast (can_address older d.step d.at.issue)
    (cycle_of d.at.address)) _ e timed.address in
    rw z refl

-- the operands are there, the address is, and it hasn't started
pub ready_is : {i : Loaded} {config : Configuration} (t u : ℕ) (d : Done) (older : List Done)
    → IsUpTo i config t (d ∷ older) → u ≡ t + 1
    → is_waiting (station_of i (clocks t t t) d older) ≡ (nat_lt t d.at.start && nat_lt (source_end older (j_of d.step))
    u && nat_lt (source_end older (k_of d.step)) u && nat_lt (cycle_of d.at.address) u)
ready_is t u d older up e =
    let j = there_test t older (j_of d.step) (older_up_to up) in
    let k = there_test t older (k_of d.step) (older_up_to up) in
    let a = addressed_is (is_memory d.step) (cycle_of d.at.address) t u (address_of d.step) e (no_address d up.timed.0)
    in
    grind (arith, nat_tests)

-- Older accesses.

pub there_value : (v : ℕ) (p : Option Tag) → is_there (field_from v p) ≡ true → value_in (field_from v p) ≡ v
there_value v None e = refl
there_value v (Some tag) e = absurd (cc)

pub no_bytes : (x : Step) → is_memory x ≡ false → bytes_of x ≡ None
no_bytes x e = no_option (bytes_of x) (bytes_of_memory x ∙ e)

-- an older access shows its bytes once its address is computed
pub bytes_are : (i : Loaded) (t : ℕ) (d : Done) (older : List Done)
    → (is_memory d.step ≡ true → cycle_of d.at.address ≤ t)
    → bytes_in (station_of i (clocks t t t) d older) ≡ bytes_of d.step
bytes_are i t d older l = grind (arith, nat_tests)

before_is : (start finish t u : ℕ) → u ≡ t + 1 → start ≤ finish
    → is_finished_before (if nat_le start t then Some finish else None) u ≡ nat_lt finish u
before_is start finish t u e l = grind (arith, nat_tests)

-- no access: nothing to wait for
pub conflicts_none : (h : List Done) (x : Step) (u : ℕ) → bytes_of x ≡ None → are_conflicts_finished h x u ≡ true
conflicts_none [] x u e = refl
conflicts_none (d ∷ older) x u e =
    let one : (not (conflicts d.step x) || nat_lt d.at.finish u) ≡ true = rw (e, share_none (bytes_of d.step)) refl in
    rw one (conflicts_none older x u e)

lets_is : {i : Loaded} {config : Configuration} (t u : ℕ) (d : Done) (older : List Done) (s : Station) (x : Step)
    → IsUpTo i config t (d ∷ older) → u ≡ t + 1 → (is_memory d.step ≡ true → cycle_of d.at.address ≤ t)
    → bytes_in s ≡ bytes_of x → is_store (step_in s) ≡ is_store x → lets_pass (Some (station_of i (clocks t t t) d
    older)) s u ≡ (not (conflicts d.step x) || nat_lt d.at.finish u)
lets_is {i} t u d older s x up e l bytes store =
    let order : d.at.start ≤ d.at.finish = (reach d older up.lawful up.timed).order in
    rw (bytes_are i t d older l, bytes, store, before_is d.at.start d.at.finish t u e order) refl

-- the older accesses that a station with an address waits for are those of the recurrence
pub clear_is : {i : Loaded} {config : Configuration} {t u : ℕ} {st : Pools} (part : List Done) (s : Station) (x : Step)
    → IsUpTo i config t part → u ≡ t + 1 → ShowsPart i (clocks t t t) st part → last_address part ≤ t
    → bytes_in s ≡ bytes_of x → is_store (step_in s) ≡ is_store x
    → is_clear st.slots (order_of t part) s u ≡ are_conflicts_finished part x u
clear_is [] s x up f shown last bytes store = refl
clear_is {t = t} {u} {st} (d ∷ older) s x up f shown last bytes store =
    let made : is_memory d.step ≡ true → cycle_of d.at.address ≤ t = λ m. rw m at last in
    let before : last_address older ≤ t = elim (cases_Bool (is_memory d.step)) [
      | inl m ↦ let k : last_address older < cycle_of d.at.address = address_rises d up.timed.0 m in
          let l : cycle_of d.at.address ≤ t = made m in omega arith
      | inr m ↦ rw m at last
    ] in
    let rest = clear_is older s x (older_up_to up) f (older_shown shown) before bytes store in
    elim (cases_Bool (nat_lt t d.at.end)) [
      | inr l ↦
          let k : d.at.end ≤ t = ltb-false _ _ l in
          let r : d.at.finish ≤ d.at.end = (reach d older up.lawful up.timed).finish in
          rw (l, lt-ltb d.at.finish u (omega arith), or_right (not (conflicts d.step x)) true refl) rest
      | inl l ↦
          let (y, place, held) = busy_at d up l in
          let one = ap (λ o. lets_pass o s u) (held_here shown y held).slot ∙ lets_is t u d older s x up f made bytes
          store in
          ap (λ xs. is_clear st.slots xs s u) (order_here t y d older place l)
          ∙ (clear-append st.slots (order_of t older) y s u ∙ rw (one, rest) refl)
    ]

-- The pass over the order picks the stations that the recurrence starts.

-- the step uses a unit, and starts in the cycle
abbrev pub starts_in : ℕ → Done → Bool
starts_in u d = is_some (step_unit d.step) && (d.at.start == u)

-- what holds the place starts in the cycle
abbrev pub starts_at : ℕ → ℕ → List Done → ℕ → Bool
starts_at t u [] x = false
starts_at t u (d ∷ older) x = if holds_place t x d then starts_in u d else starts_at t u older x

-- how many operations of a kind start in the cycle
abbrev pub count_of : UnitId → ℕ → List Done → ℕ
count_of unit u h = count_by (λ d. is_of unit (step_unit d.step) && (d.at.start == u)) h

-- the tests of the pass and of the recurrence, one after the other
tests_same : (i a j k c b w : Bool) → i ≡ true → (a ≡ true → j ≡ true → k ≡ true → c ≡ b)
    → ((((((true && j) && k) && a) && c) && w) ≡ ((((i && a) && (j && k)) && b) && w))
tests_same i a j k c b w e f = grind (arith, nat_tests)

clear_here : {i : Loaded} {config : Configuration} {t u : ℕ} {st : Pools} (d : Done) (older : List Done)
    → IsUpTo i config t (d ∷ older) → u ≡ t + 1 → ShowsPart i (clocks t t t) st older → cycle_of d.at.address < u
    → is_clear st.slots (order_of t older) (station_of i (clocks t t t) d older) u
    ≡ are_conflicts_finished older d.step u
clear_here {i} {t = t} {u} {st} d older up f shown l =
    let bytes = bytes_are i t d older (λ m. omega arith) in
    elim (cases_Bool (is_memory d.step)) [
      | inr m ↦
          let none : bytes_of d.step ≡ None = no_bytes d.step m in
          no_access st.slots (order_of t older) (station_of i (clocks t t t) d older) u (bytes ∙ none)
          ∙ sym (conflicts_none older d.step u none)
      | inl m ↦
          let k : last_address older < cycle_of d.at.address = address_rises d up.timed.0 m in
          clear_is older (station_of i (clocks t t t) d older) d.step (older_up_to up) f shown (omega arith) bytes refl
    ]

-- an operation that is ready starts if a unit of its kind is left: the recurrence's test
pub begins_is : {i : Loaded} {config : Configuration} {t u : ℕ} {st : Pools} (d : Done) (older : List Done)
    (unit : UnitId) → IsUpTo i config t (d ∷ older) → u ≡ t + 1 → ShowsPart i (clocks t t t) st older
    → step_unit d.step ≡ Some unit
    → (is_waiting (station_of i (clocks t t t) d older) && is_clear st.slots (order_of t older) (station_of i (clocks t
    t t) d older) u && nat_lt (count_of unit u older) (option_of config unit).units) ≡ (d.at.start == u)
begins_is {i} {config} {t} {u} {st} d older unit up f shown some =
    let ready = ready_is t u d older up f in
    elim (cases_Bool (nat_lt t d.at.start)) [
      | inr l ↦
          let k : d.at.start ≤ t = ltb-false _ _ l in
          rw (ready, l, ne_eqb d.at.start u (λ (z : d.at.start ≡ u). absurd (omega arith))) refl
      | inl l ↦
          let k : t < d.at.start = ltb-true _ _ l in
          let test = least_test (can_start config older d.step unit d.at.issue (cycle_of d.at.address)) d.at.start u
          (start_least d unit up.timed.0 some) (omega arith) in
          let issue : nat_lt d.at.issue u ≡ true = lt-ltb d.at.issue u (let z : d.at.issue ≤ t = up.issued.0 in
          omega arith) in
          let clear : nat_lt (cycle_of d.at.address) u ≡ true → is_clear st.slots (order_of t older)
          (station_of i (clocks t t t) d older) u ≡ are_conflicts_finished older d.step u = λ a. clear_here d older up f
          shown (ltb-true _ _ a) in
          rw (ready, l) (tests_same (nat_lt d.at.issue u) (nat_lt (cycle_of d.at.address) u)
          (nat_lt (source_end older (j_of d.step)) u) (nat_lt (source_end older (k_of d.step)) u) _ _
          (has_unit config older unit u) issue (λ a b c. clear a) ∙ test)
    ]

-- operations of one kind that start in the cycle
abbrev pub starts_of : UnitId → ℕ → Done → Bool
starts_of unit u d = is_of unit (step_unit d.step) && (d.at.start == u)

none_of_start : (u start : ℕ) (unit : UnitId) (o : Option UnitId) → (start == u) ≡ false
    → (is_of unit o && (start == u)) ≡ false
none_of_start u start unit o e = rw e (and_right (is_of unit o) false refl)

-- what is wanted for the station of a step
wants_is : (ready b : Bool) (unit : UnitId) (o : Option UnitId) (left : UnitId → Bool)
    → ((v : UnitId) → o ≡ Some v → (ready && left v) ≡ b)
    → (is_number (kind_if ready (kind_of o)) (place_of_unit unit) && left unit) ≡ (is_of unit o && b)
wants_is ready b unit o left h5 = grind (arith, nat_tests)

-- the places that come after those of the older steps
abbrev younger_of : ℕ → Done → List ℕ → List ℕ
younger_of t d younger = if nat_lt t d.at.end then onto_end [] (place_of d) ++ younger else younger

order_on : (t : ℕ) (d : Done) (older : List Done) (younger : List ℕ)
    → order_of t (d ∷ older) ++ younger ≡ order_of t older ++ younger_of t d younger
order_on t d older younger = elim (cases_Bool (nat_lt t d.at.end)) [
  | inl l ↦ rw l (onto (place_of d))
  | inr l ↦ rw l refl
]
  where
    onto : (o : Option ℕ) → onto_end (order_of t older) o ++ younger ≡ order_of t older ++ (onto_end [] o ++ younger)
    onto None = refl
    onto (Some x) = append_assoc (order_of t older) (x ∷ []) younger

-- what has no station uses no unit
no_pool_unit : {config : Configuration} (d : Done) {older : List Done} → IsTimed config older d.step d.at
    → place_of d ≡ None → step_unit d.step ≡ None
no_pool_unit d timed e = grind (arith, nat_tests, unit_with_pool d.step)

-- one step of a kind is served by the recurrence
one_serves : {i : Loaded} {config : Configuration} {t u set : ℕ} {st : Pools} (unit : UnitId) (d : Done)
    (older : List Done) → IsUpTo i config t (d ∷ older) → u ≡ t + 1 → ShowsPart i (clocks t t t) st (d ∷ older)
    → ((x : ℕ) → x < 128 → holds_place t x d ≡ true → has set x ≡ is_number (unit_needed st.slots (order_of t older) u
    (slot st.slots x)) (place_of_unit unit)) → Serves t (option_of config unit).units set (starts_of unit u) d older
one_serves {i} {config} {t} {u} {st = st} unit d older up f shown wants = record {
  idle = λ l.
      let k : d.at.end ≤ t = ltb-false _ _ l in
      let r : d.at.start ≤ d.at.end = (reach d older up.lawful up.timed).start in
      none_of_start u d.at.start unit (step_unit d.step)
      (ne_eqb d.at.start u (λ (z : d.at.start ≡ u). absurd (omega arith)));
  nowhere = λ none. rw (no_pool_unit d up.timed.0 none) refl;
  ready = λ x held.
      let at = held_here shown x held in
      let small : x < 96 = at.small in
      sym (ap (λ b. b && nat_lt (count_by (starts_of unit u) older) (option_of config unit).units)
      (wants x (omega arith) held
      ∙ ap (λ o. is_number (unit_needed st.slots (order_of t older) u o) (place_of_unit unit)) at.slot)
      ∙ wants_is (is_waiting (station_of i (clocks t t t) d older) && is_clear st.slots (order_of t older)
      (station_of i (clocks t t t) d older) u) (d.at.start == u) unit (step_unit d.step)
      (λ v. nat_lt (count_of v u older) (option_of config v).units)
      (λ v some. begins_is d older v up f (older_shown shown) some));
}

all_serve : {i : Loaded} {config : Configuration} {t u set : ℕ} {st : Pools} (unit : UnitId) (part : List Done)
    (younger : List ℕ) → IsUpTo i config t part → u ≡ t + 1 → ShowsPart i (clocks t t t) st part
    → IsInIssueOrder st.busy st.issue_numbers (order_of t part ++ younger) → AreStartableFor st u unit set
    → AreServed t (option_of config unit).units set (starts_of unit u) part
all_serve unit [] younger up f shown by ready = tt
all_serve {t = t} {st = st} unit (d ∷ older) younger up f shown by ready = (
  one_serves unit d older up f shown (λ x l held. ready.wants x l (order_of t older) younger (rw (after x held) at by)),
  all_serve unit older (younger_of t d younger) (older_up_to up) f (older_shown shown)
      (rw (order_on t d older younger) at by) ready,
)
  where
    after : (x : ℕ) → holds_place t x d ≡ true → order_of t (d ∷ older) ++ younger ≡ order_of t older ++ (x ∷ younger)
    after x held =
        let late = (and_parts (is_number (place_of d) x) (nat_lt t d.at.end) held).1 in
        ap (λ xs. xs ++ younger) (order_here t x d older (held_place t x d held) late)
        ∙ append_assoc (order_of t older) (x ∷ []) younger

-- nobody older goes from a place that is held
goes_free : (t x : ℕ) (goes : Done → Bool) (h : List Done) → is_vacant t x h ≡ true → goes_at t goes h x ≡ false
goes_free t x goes [] e = refl
goes_free t x goes (d ∷ older) e = elim (cases_Bool (holds_place t x d)) [
  | inr h ↦ rw h (goes_free t x goes older (and_parts (not (holds_place t x d)) (is_vacant t x older) e).1)
  | inl h ↦ let g : not true ≡ true = rw h at (and_parts (not (holds_place t x d)) (is_vacant t x older) e).0 in
      absurd (cc)
]

pub all_alone : {i : Loaded} {config : Configuration} {s : ℕ} (t : ℕ) (goes : Done → Bool) (h : List Done)
    → IsUpTo i config s h → s ≤ t + 1 → AreAlone t goes h
all_alone t goes [] up l = tt
all_alone t goes (d ∷ older) up l = (
  (λ x held. goes_free t x goes older
      (vacant d older t x up l (and_parts (is_number (place_of d) x) (nat_lt t d.at.end) held).0)),
  all_alone t goes older (older_up_to up) l,
)

-- of all kinds together
kinds_at : (t u : ℕ) (h : List Done) (x : ℕ) → (goes_at t (starts_of units.Alu u) h x
    || (goes_at t (starts_of units.Mul u) h x || (goes_at t (starts_of units.Div u) h x
    || (goes_at t (starts_of units.Mem u) h x || (goes_at t (starts_of units.Bru u) h x || false))))) ≡ starts_at t u h
    x
kinds_at t u [] x = refl
kinds_at t u (d ∷ older) x = elim (cases_Bool (holds_place t x d)) [
  | inr h ↦ rw h (kinds_at t u older x)
  | inl h ↦ rw h (one_kind (step_unit d.step) (d.at.start == u))
]
  where
    one_kind : (o : Option UnitId) (b : Bool) → ((is_of units.Alu o && b)
        || ((is_of units.Mul o && b) || ((is_of units.Div o && b) || ((is_of units.Mem o && b)
        || ((is_of units.Bru o && b) || false))))) ≡ (is_some o && b)
    one_kind o b = grind (arith, nat_tests)

pub five : (xs : List ℕ) (x : ℕ) → length xs ≡ 5
    → is_among xs x ≡ (has (slice_index xs 0) x || (has (slice_index xs 1) x || (has (slice_index xs 2) x || (has
    (slice_index xs 3) x || (has (slice_index xs 4) x || false)))))
five (a ∷ b ∷ c ∷ d ∷ e ∷ []) x count = refl
five _ x count = absurd (omega arith)

-- the places that start are those whose steps start
pub starting_is : {i : Loaded} {config : Configuration} {t u : ℕ} (x : ℕ) {st : Pools} {h : List Done} {starting : ℕ}
    → IsUpTo i config t h → ShowsStations i (clocks t t t) h st → AreBusy st.slots st.busy st.issue_numbers
    → IsStarting config st u starting → u ≡ t + 1 → x < 128 → has starting x ≡ starts_at t u h x
starting_is {t = t} {u} x {st} {h} up shown filled begins e l =
    let by : IsInIssueOrder st.busy st.issue_numbers (order_of t h) = order_is up (omega arith) shown filled in
    let kind : (unit : UnitId) → has (slice_index begins.kinds (place_of_unit unit)) x ≡ goes_at t (starts_of unit u) h
    x = λ unit. picked_goes t (starts_of unit u) h by (begins.are_startable unit).inside (begins.units unit)
    (all_serve unit h [] up e (shows_part up (omega arith) shown) (rw (append-nil (order_of t h)) by)
    (begins.are_startable unit)) (all_alone t (starts_of unit u) h up (omega arith)) x l in
    begins.all x l ∙ (five begins.kinds x begins.count
    ∙ (rw (kind units.Alu, kind units.Mul, kind units.Div, kind units.Mem, kind units.Bru) (kinds_at t u h x)))
