-- What ends in a cycle: the recurrence's test, by the buses that are left.
use Rattle.std.proofs.lemmas.Bool.{MatchBool-at_true, MatchBool-at_false}
use Rattle.tomex_cycle.proofs.Words.{nat_lt, nat_le, if◌then◌else◌, ◌&&◌, ◌==◌, is_some, count_by, MatchOption}
use Rattle.tomex_cycle.proofs.Words.{nat_tests, not, MatchBool, cases_Bool, ltb-true, ltb-false, lt-ltb, and_parts}
use Rattle.tomex_cycle.proofs.Words.{eqb-true, ne_eqb, both_ways, Loaded, Configuration, IsWithinLimits, PoolId}
use Rattle.tomex_cycle.proofs.Words.{unit_at, is_number, step_dest, step_pool, Done, AreTimed, can_end, tag_at, clocks}
use Rattle.tomex_cycle.proofs.Words.{holds_place, order_of, place_of, station_at, station_of, ShowsStations}
use Rattle.tomex_cycle.proofs.Words.{is_finished_by, AreEnding, can_send, ends_alone, is_finished_before, place_at}
use Rattle.tomex_cycle.proofs.Words.{Pools, AreBusy, Station, has, IsInIssueOrder, ◌||◌, IsUpTo, slot, le-ltb, le-leb}
use Rattle.tomex_cycle.proofs.Words.{eqb-false, Operand, Step, register_after, j_of, k_of, operand, Tag, field_from}
use Rattle.tomex_cycle.proofs.Words.{field_of, producer, steps_in, sent_at, ShowsRegisters, after_ends, sends_of}
use Rattle.tomex_cycle.proofs.Words.{sent_below, HaveReceived, hears, field_after, RegStatus, ℕ, ◌+◌, ◌<◌, ◌≤◌, ◌≡◌}
use Rattle.tomex_cycle.proofs.Words.{◌∙◌, Bool, true, false, arith, refl, List, [], ◌∷◌, Option, Some, None, ap, sym}
use Rattle.tomex_cycle.proofs.Words.{inl, inr, ◌⊎◌, ◌++◌, append_assoc, slice_index, slice_index_or, least_test}
use Rattle.tomex_cycle.proofs.Places.{is_vacant, vacant, held_place, ShowsPart, shows_part, held_here, older_shown}
use Rattle.tomex_cycle.proofs.Places.{older_up_to, AreLow, low, place_low, vacant_none, number_is_some, part_up_to}
use Rattle.tomex_cycle.proofs.Runs.{reach}
use Rattle.tomex_cycle.proofs.Orders.{AreServed, Serves, goes_at, picked_goes, order_is}
use Rattle.tomex_cycle.proofs.StartsPicked.{all_alone}
use Rattle.tomex_cycle.proofs.Truth.{or_false, and_false}
use Rattle.tomex_rvexec.specs.History.{Follows}
use Rattle.tomex_cycle.proofs.Fields.{heard_is, silent}
use Rattle.tomex_cycle.proofs.EndsLoops.{heard_same}

-- whether a step ends in the cycle that has its station in the place
abbrev pub ends_in : ℕ → List Done → ℕ → Bool
ends_in u [] x = false
ends_in u (d ∷ older) x = (is_number (place_of d) x && (d.at.end == u)) || ends_in u older x

-- it sends its result in the cycle
abbrev pub sends_in : ℕ → Done → Bool
sends_in u d = is_some (step_dest d.step) && (d.at.end == u)

-- The test of a turn.

-- what holds a place is timed by the clause for steps with a unit
end_clause : (pool : Option PoolId) (station : Option ℕ) (p : ℕ) (A B C : Type 0) (dest : Bool)
    → place_at (tag_at pool station) ≡ Some p → MatchOption (unit_at pool) A (λ u. MatchBool dest B C)
    → MatchBool dest B C
end_clause None station p A B C dest e h = absurd (cc)
end_clause (Some q) station p A B C dest e h = h

before_is : (u start finish : ℕ) → start ≤ finish
    → is_finished_before (if nat_le start u then Some finish else None) u ≡ nat_lt finish u
before_is u start finish l = grind (arith, nat_tests)

by_is : (u start finish : ℕ) → start ≤ finish
    → is_finished_by (if nat_le start u then Some finish else None) u ≡ nat_le finish u
by_is u start finish l = grind (arith, nat_tests)

last_is : (t u end : ℕ) → u ≡ t + 1 → t < end → nat_le end u ≡ (end == u)
last_is t u end e l = grind (arith, nat_tests)

-- whether a busy step ends, as its station shows it
one_ends : {i : Loaded} {config : Configuration} {s : ℕ} (t u p : ℕ) (d : Done) (older : List Done)
    → IsUpTo i config s (d ∷ older) → place_of d ≡ Some p → u ≡ t + 1 → t < d.at.end
    → (sends_in u d || ends_alone u (Some (station_of i (clocks u u t) d older))) ≡ (d.at.end == u)
one_ends {config = config} t u p d older up place next late =
    let l : d.at.start ≤ d.at.finish = (reach d older up.lawful up.timed).order in
    elim (cases_Bool (is_some (step_dest d.step))) [
      | inl dest ↦ rw dest (or_false (d.at.end == u))
      | inr dest ↦
          let clause =
          end_clause (step_pool d.step) d.at.station p _ _ _ (is_some (step_dest d.step)) place up.timed.0.end in
          let same : d.at.end ≡ d.at.finish = MatchBool-at_false _ _ dest clause in
          let done : is_finished_by (if nat_le d.at.start u then Some d.at.finish else None) u ≡ (d.at.end == u) =
          by_is u d.at.start d.at.finish l ∙ (ap (λ k. nat_le k u) (sym same) ∙ last_is t u d.at.end next late) in
          rw (dest, done) refl
    ]

-- whether it sends: the recurrence's test
one_sends : {i : Loaded} {config : Configuration} {s : ℕ} (t u p : ℕ) (d : Done) (older : List Done)
    → IsUpTo i config s (d ∷ older) → place_of d ≡ Some p → u ≡ t + 1 → t < d.at.end → sends_in u d
    ≡ ((is_some (step_dest d.step) && nat_lt d.at.finish u) && nat_lt (count_by (sends_in u) older) config.buses)
one_sends {config = config} t u p d older up place next late = elim (cases_Bool (is_some (step_dest d.step))) [
  | inr dest ↦ rw dest refl
  | inl dest ↦
      let clause =
      end_clause (step_pool d.step) d.at.station p _ _ _ (is_some (step_dest d.step)) place up.timed.0.end in
      let least = MatchBool-at_true _ _ dest clause in
      let test = least_test (can_end config older d.at.finish) d.at.end u least (omega arith) in
      rw dest (sym test)
]

-- The places.

-- what holds no station sends nothing
no_dest : {config : Configuration} (d : Done) (older : List Done) → IsWithinLimits config → AreTimed config (d ∷ older)
    → place_of d ≡ None → is_some (step_dest d.step) ≡ false
no_dest d older good timed e = grind (arith, nat_tests)

-- the busy steps whose results are ready are served by the recurrence
send_serves : {i : Loaded} {config : Configuration} {s t u : ℕ} (ready : ℕ) {st : Pools} (d : Done) (older : List Done)
    → IsUpTo i config s (d ∷ older) → u ≡ t + 1 → ShowsPart i (clocks u u t) st (d ∷ older)
    → AreBusy st.slots st.busy st.issue_numbers
    → ((x : ℕ) → x < 128 → has ready x ≡ (has st.busy x && can_send u (slot st.slots x)))
    → Serves t config.buses ready (sends_in u) d older
send_serves {config = config} {t = t} {u} ready {st} d older up next shown filled said = record {
  idle = λ l. let k : d.at.end ≤ t = ltb-false _ _ l in
      rw (ne_eqb d.at.end u (λ (z : d.at.end ≡ u). absurd (omega arith))) (and_false (is_some (step_dest d.step)));
  nowhere = λ none. rw (no_dest d older up.lawful up.timed none) refl;
  ready = λ x held.
      let late : t < d.at.end = ltb-true _ _ (and_parts (is_number (place_of d) x) (nat_lt t d.at.end) held).1 in
      let there = held_here shown x held in
      let small : x < 96 = there.small in
      let l : d.at.start ≤ d.at.finish = (reach d older up.lawful up.timed).order in
      let busy : has st.busy x ≡ true = filled.each x (omega arith) ∙ ap is_some there.slot in
      one_sends t u x d older up (held_place t x d held) next late
      ∙ sym (ap (λ b. b && nat_lt (count_by (sends_in u) older) config.buses) (said x (omega arith)
      ∙ rw (busy, there.slot, before_is u d.at.start d.at.finish l) refl));
}

all_send : {i : Loaded} {config : Configuration} {s t u : ℕ} (ready : ℕ) {st : Pools} (part : List Done)
    → IsUpTo i config s part → u ≡ t + 1 → ShowsPart i (clocks u u t) st part
    → AreBusy st.slots st.busy st.issue_numbers
    → ((x : ℕ) → x < 128 → has ready x ≡ (has st.busy x && can_send u (slot st.slots x)))
    → AreServed t config.buses ready (sends_in u) part
all_send ready [] up next shown filled said = tt
all_send ready (d ∷ older) up next shown filled said = (
  send_serves ready d older up next shown filled said,
  all_send ready older (older_up_to up) next (older_shown shown) filled said,
)

pub idle_ends : (t u x : ℕ) (h : List Done) → u ≡ t + 1 → is_vacant t x h ≡ true → ends_in u h x ≡ false
idle_ends t u x [] e free = refl
idle_ends t u x (d ∷ older) e free = elim (cases_Bool (is_number (place_of d) x && (d.at.end == u))) [
  | inr k ↦ rw k (idle_ends t u x older e (and_parts (not (holds_place t x d)) (is_vacant t x older) free).1)
  | inl k ↦
      let a = and_parts (is_number (place_of d) x) (d.at.end == u) k in
      let b : d.at.end ≡ u = eqb-true _ _ a.1 in
      let held : holds_place t x d ≡ true = rw (a.0, lt-ltb t d.at.end (omega arith)) refl in
      let f : not true ≡ true = rw held at (and_parts (not (holds_place t x d)) (is_vacant t x older) free).0 in
      absurd (cc)
]

-- steps that send and steps that end without a result end in the cycle
both_end : {i : Loaded} {config : Configuration} (t u x : ℕ) (h : List Done) → IsUpTo i config u h → u ≡ t + 1
    → (goes_at t (sends_in u) h x || ends_alone u (station_at i (clocks u u t) h x)) ≡ ends_in u h x
both_end t u x [] up next = refl
both_end t u x (d ∷ older) up next =
    let before = both_end t u x older (older_up_to up) next in
    elim (cases_Bool (holds_place t x d)) [
      | inl held ↦
          let two = and_parts (is_number (place_of d) x) (nat_lt t d.at.end) held in
          let free = vacant d older t x up (omega arith) two.0 in
          rw (held, two.0, idle_ends t u x older next free) (one_ends t u x d older up (held_place t x d held) next
          (ltb-true _ _ two.1) ∙ sym (or_false (d.at.end == u)))
      | inr held ↦ elim (cases_Bool (is_number (place_of d) x)) [
        | inr at ↦ rw (held, at) before
        | inl at ↦
            let over : nat_lt t d.at.end ≡ false = elim (cases_Bool (nat_lt t d.at.end))
            [ inr l ↦ l | inl l ↦ absurd (both_ways (holds_place t x d) held (rw (at, l) refl)) ] in
            let k : d.at.end ≤ t = ltb-false _ _ over in
            rw (held, at, ne_eqb d.at.end u (λ (z : d.at.end ≡ u). absurd (omega arith))) before
      ]
    ]

and_alone : (o : Option Station) (u : ℕ) → (is_some o && ends_alone u o) ≡ ends_alone u o
and_alone None u = refl
and_alone (Some s) u = refl

-- the places that end are those whose steps end
pub ending_is : {i : Loaded} {config : Configuration} {t u : ℕ} (x : ℕ) {st : Pools} {h : List Done} {ending : ℕ}
    → IsUpTo i config u h → u ≡ t + 1 → ShowsStations i (clocks u u t) h st
    → AreBusy st.slots st.busy st.issue_numbers → AreEnding st config.buses u ending → x < 96
    → has ending x ≡ ends_in u h x
ending_is {t = t} {u} x {st} {h} up next shown filled ends l =
    let by : IsInIssueOrder st.busy st.issue_numbers (order_of t h) = order_is up (omega arith) shown filled in
    let sends : has ends.sending x ≡ goes_at t (sends_in u) h x = picked_goes t (sends_in u) h by
    (λ y m k. (and_parts (has st.busy y) (can_send u (slot st.slots y)) (sym (ends.are_unsent y m) ∙ k)).0) ends.sent
    (all_send ends.unsent h up next (shows_part up (omega arith) shown) filled ends.are_unsent) (all_alone t
    (sends_in u) h up (omega arith)) x (omega arith) in
    let alone = ap (λ b. b && ends_alone u (slot st.slots x)) (filled.each x (omega arith)) ∙ (and_alone
    (slot st.slots x) u ∙ ap (ends_alone u) (shown.slots x l)) in
    ends.all x (omega arith) ∙ (rw (sends, alone) (both_end t u x h up next))

-- What ends in a cycle, and what is sent, make the state after the cycle.

pub later : (t u end : ℕ) → u ≡ t + 1 → t < end → (end ≡ u → ⊥) → u < end
later t u end e l other = grind (arith, nat_tests)

-- What is sent.

-- what the places that end have to send is what is sent
pub sent_is : {i : Loaded} {config : Configuration} (t u x : ℕ) (h : List Done) → IsUpTo i config u h → u ≡ t + 1
    → (if ends_in u h x then sends_of (station_at i (clocks u u t) h x) else None) ≡ sent_at i u h x
sent_is t u x [] up e = refl
sent_is {i} t u x (d ∷ older) up e =
    let rest = sent_is t u x older (older_up_to up) e in
    elim (cases_Bool (is_number (place_of d) x)) [
      | inr at ↦ rw at rest
      | inl at ↦
          let free : is_vacant t x older ≡ true = vacant d older t x up (omega arith) at in
          elim (cases_Bool (d.at.end == u)) [
            | inl k ↦
                let end : d.at.end ≡ u = eqb-true _ _ k in
                let r : d.at.start ≤ d.at.end = (reach d older up.lawful up.timed).start in
                elim (cases_Bool (is_some (step_dest d.step))) [
                  | inl dest ↦ rw (at, k, lt-ltb t d.at.end (omega arith), dest, le-leb d.at.start u (omega arith)) refl
                  | inr dest ↦ rw (at, k, lt-ltb t d.at.end (omega arith), dest) (sym (silent i t u x older e free))
                ]
            | inr k ↦ rw (at, k, idle_ends t u x older e free, and_false (is_some (step_dest d.step)))
                (sym (silent i t u x older e free))
          ]
    ]

-- nothing is sent from beyond the places
sent_high : (i : Loaded) (u x : ℕ) (h : List Done) → AreLow h → 96 ≤ x → sent_at i u h x ≡ None
sent_high i u x [] few l = refl
sent_high i u x (d ∷ older) few l = elim (cases_Bool (is_number (place_of d) x)) [
  | inr at ↦ rw at (sent_high i u x older few.1 l)
  | inl at ↦
      let small : x < 96 = place_low (step_pool d.step) d.at.station x few.0 (number_is_some (place_of d) x at) in
      absurd (omega arith)
]

pub sent_all : {i : Loaded} {config : Configuration} (t : ℕ) {u : ℕ} (h : List Done) (slots : List (Option Station))
    (picked : ℕ) → IsUpTo i config u h → u ≡ t + 1
    → ((x : ℕ) → x < 96 → slot slots x ≡ station_at i (clocks u u t) h x)
    → ((x : ℕ) → x < 96 → has picked x ≡ ends_in u h x) → (y : ℕ) → sent_at i u h y ≡ sent_below slots picked 96 y
sent_all {i} t {u} h slots picked up e shown ends y = elim (cases_Bool (nat_lt y 96)) [
  | inl l ↦ let k : y < 96 = ltb-true y 96 l in rw (l, ends y k, shown y k) (sym (sent_is t u y h up e))
  | inr l ↦ let k : 96 ≤ y = ltb-false y 96 l in rw l (sent_high i u y h (low h up) k)
]

-- Operands receive what is sent.

pub j_cases : (x : Step) → (j_of x ≡ None) ⊎ (j_of x ≡ Some (operand x.vj x.instr.rs1))
j_cases x = grind (arith, nat_tests)

pub k_cases : (x : Step) → (k_of x ≡ None) ⊎ (k_of x ≡ Some (operand x.vk x.instr.rs2))
k_cases x = grind (arith, nat_tests)

field_hears : {i : Loaded} {config : Configuration} (t u v r : ℕ) (newer older : List Done) (o : Option Operand)
    → IsUpTo i config u (newer ++ older) → u ≡ t + 1 → v ≡ register_after i (steps_in older) r
    → (o ≡ None) ⊎ (o ≡ Some (operand v r)) → field_after (sent_at i u (newer ++ older))
    (field_of t older o) ≡ field_of u older o
field_hears t u v r newer older o up e value (inl none) = rw none refl
field_hears t u v r newer older o up e value (inr some) = rw some (heard_is t u newer older (operand v r) up e value)

station_hears : {i : Loaded} {config : Configuration} (t u : ℕ) (newer : List Done) (d : Done) (older : List Done)
    → IsUpTo i config u ((newer ++ (d ∷ [])) ++ older) → u ≡ t + 1 → Follows i (steps_in older) d.step → station_of i
    (clocks u u u) d older ≡ hears (sent_at i u ((newer ++ (d ∷ [])) ++ older)) (station_of i (clocks u u t) d older)
station_hears {i} t u newer d older up e follows =
    let j = field_hears t u d.step.vj d.step.instr.rs1 (newer ++ (d ∷ [])) older (j_of d.step) up e follows.vj
    (j_cases d.step) in
    let k = field_hears t u d.step.vk d.step.instr.rs2 (newer ++ (d ∷ [])) older (k_of d.step) up e follows.vk
    (k_cases d.step) in
    rw (j, k) refl

-- The stations after the cycle.

pub stations_at : {i : Loaded} {config : Configuration} (t u x : ℕ) (newer part : List Done)
    → IsUpTo i config u (newer ++ part) → u ≡ t + 1
    → station_at i (clocks u u u) part x ≡ after_ends (ends_in u part x) (sent_at i u (newer ++ part))
    (station_at i (clocks u u t) part x)
stations_at t u x newer [] up e = refl
stations_at {i} {config} t u x newer (d ∷ older) up e =
    let whole : newer ++ (d ∷ older) ≡ (newer ++ (d ∷ [])) ++ older = sym (append_assoc newer (d ∷ []) older) in
    let all : IsUpTo i config u ((newer ++ (d ∷ [])) ++ older) = rw (← whole) up in
    let rest = rw (← whole) at (stations_at t u x (newer ++ (d ∷ [])) older all e) in
    let part = part_up_to newer up in
    elim (cases_Bool (is_number (place_of d) x)) [
      | inr at ↦ rw at rest
      | inl at ↦ elim (cases_Bool (nat_lt t d.at.end)) [
        | inr k ↦
            let before : d.at.end ≤ t = ltb-false _ _ k in
            rw (at, k, le-ltb u d.at.end (omega arith), ne_eqb d.at.end u (λ (z : d.at.end ≡ u). absurd (omega arith)))
            rest
        | inl k ↦
            let late : t < d.at.end = ltb-true _ _ k in
            elim (cases_Bool (d.at.end == u)) [
              | inl now ↦
                  let end : d.at.end ≡ u = eqb-true _ _ now in
                  rw (at, now, le-ltb u d.at.end (omega arith))
                  (vacant_none i (clocks u u u) older x (vacant d older u x part (omega arith) at))
              | inr now ↦
                  let other : d.at.end ≡ u → ⊥ = eqb-false _ _ now in
                  let after : u < d.at.end = later t u d.at.end e late other in
                  rw (
                    at,
                    now,
                    k,
                    lt-ltb u d.at.end after,
                    idle_ends t u x older e (vacant d older t x part (omega arith) at),
                  ) (ap (λ (s : Station). Some s) (rw whole (station_hears t u newer d older all e part.past.0)))
            ]
      ]
    ]

-- The registers after the cycle.

field_same : (a b : ℕ) (p q : Option Tag) → field_from a p ≡ field_from b q → (p ≡ q) × (q ≡ None → a ≡ b)
field_same a b p q h4 = grind (arith, nat_tests)

field_by : (a b : ℕ) (p q : Option Tag) → p ≡ q → (q ≡ None → a ≡ b) → field_from a p ≡ field_from b q
field_by a b p None e v = rw (e, v refl) refl
field_by a b p (Some q) e v = rw e refl

pub registers_at : {i : Loaded} {config : Configuration} {t u : ℕ} {h : List Done} {sent : ℕ → Option ℕ}
    {old new : RegStatus} → IsUpTo i config u h → u ≡ t + 1 → ShowsRegisters i t h old
    → ((y : ℕ) → sent_at i u h y ≡ sent y) → HaveReceived sent old new → ShowsRegisters i u h new
registers_at {i} {t = t} {u} {h} {sent} {old} {new} up e shown same made =
    let each : (r : ℕ) → r < 32 → field_from (slice_index new.values r) (slice_index_or new.tags r None) ≡ field_from
    (register_after i (steps_in h) r) (producer u h r) = λ r l. made.fields r l ∙ (heard_same sent (sent_at i u h)
    (field_from (slice_index old.values r) (slice_index_or old.tags r None)) same ∙ (ap (field_after (sent_at i u h))
    (field_by (slice_index old.values r) (register_after i (steps_in h) r) (slice_index_or old.tags r None)
    (producer t h r) (shown.tags r l) (shown.values r l)) ∙ heard_is t u [] h (operand (register_after i (steps_in h) r)
    r) up e refl)) in
    record {
      count = made.count;
      status = made.status;
      tags = λ r l. (field_same (slice_index new.values r) (register_after i (steps_in h) r)
          (slice_index_or new.tags r None) (producer u h r) (each r l)).0;
      values = λ r l. (field_same (slice_index new.values r) (register_after i (steps_in h) r)
          (slice_index_or new.tags r None) (producer u h r) (each r l)).1;
    }
