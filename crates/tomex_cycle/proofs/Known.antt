-- What is known of the finishes ahead, as stations come and their operations start. It follows from the stations and
-- only the cycle.
use Rattle.tomex_rvdec.proofs.Places.{pool_low}
use Rattle.tomex_cycle.proofs.Words.{nat_lt, ◌==◌, ◌&&◌, not, is_none, is_some, IsSome, and_right, both_ways, nat_tests}
use Rattle.tomex_cycle.proofs.Words.{cases_Bool, eq-eqb, eqb-true, eqb-false, le-ltb, ltb-true, ltb-false, ne_eqb}
use Rattle.tomex_cycle.proofs.Words.{get_or-replicate, get_or-set_same, get_or-set_other, get_or_past, length-set}
use Rattle.tomex_cycle.proofs.Words.{dest_of, place_of_pool, PoolId, is_number, is_due, none_in, with_address, is_open}
use Rattle.tomex_cycle.proofs.Words.{Station, Field, can_send, finishes, is_finished_before, IsTimetableOf, has_stayed}
use Rattle.tomex_cycle.proofs.Words.{Finishes, ◌||◌, with_start, slot, ◌≢◌, IsFree, ℕ, ◌+◌, ◌-◌, ◌*◌, ◌<◌, ◌≤◌, ◌≡◌}
use Rattle.tomex_cycle.proofs.Words.{◌∙◌, Bool, true, false, arith, refl, ap, sym, inl, inr, List, Option, Some, None}
use Rattle.tomex_cycle.proofs.Words.{length, slice_index_or, slice_set, option_map, replicate, HasPut, IsEmpty, Lacks}
use Rattle.tomex_cycle.proofs.Words.{HasPassed, IsClearTo, IsNext, CanSkip}
use Rattle.tomex_cycle.proofs.Truth.{or_false}

-- A test of each place's content, after this is put into one.

kept_test : (test : Option Station → Bool) (slots : List (Option Station)) (x y : ℕ) (o : Option Station)
    → x < length slots → test o ≡ test (slot slots x) → test (slot (slice_set slots x o) y) ≡ test (slot slots y)
kept_test test slots x y o l same = elim (cases_Bool (x == y)) [
  | inl e ↦ let at : x ≡ y = eqb-true x y e in rw (← at) (ap test (get_or-set_same slots x o None l) ∙ same)
  | inr e ↦ ap test (get_or-set_other slots x y o None (λ z. eqb-false x y e (sym z)))
]

pub known_same : {slots : List (Option Station)} (x : ℕ) {next : ℕ} (o : Option Station) {f : Finishes}
    → x < length slots → IsTimetableOf slots next f
    → ((v : ℕ) → finishes v o ≡ finishes v (slot slots x))
    → can_send next o ≡ can_send next (slot slots x)
    → has_stayed next o ≡ has_stayed next (slot slots x) → IsTimetableOf (slice_set slots x o) next f
known_same {slots} x {next} o l known fin send stay = record {
  places = length-set slots x o ∙ known.places;
  ahead = λ a y m k. known.ahead a y m k ∙ sym (kept_test (finishes (next + a)) slots x y o l (fin (next + a)));
  near = λ y v m e. known.near y v m (sym (kept_test (finishes v) slots x y o l (fin v)) ∙ e);
  low = known.low;
  unsent = λ y m. known.unsent y m ∙ sym (kept_test (can_send next) slots x y o l send);
  gone = λ y m. kept_test (has_stayed next) slots x y o l stay ∙ known.gone y m;
}

-- a place that is taken
pub inside_of : (slots : List (Option Station)) (x : ℕ) (s : Station) → slot slots x ≡ Some s → x < length slots
inside_of slots x s at = elim (cases_Bool (nat_lt x (length slots))) [
  | inl l ↦ ltb-true _ _ l
  | inr l ↦ let z : Some s ≡ None = sym at ∙ get_or_past slots x None (ltb-false _ _ l) in absurd (cc)
]

-- A station that hasn't started.

none_finishes : (v : ℕ) (s : Station) → s.finish ≡ None → finishes v (Some s) ≡ false
none_finishes v s e = ap (λ (z : Option ℕ). is_number z v) e

none_sends : (next : ℕ) (s : Station) → s.finish ≡ None → can_send next (Some s) ≡ false
none_sends next s e = ap (λ (z : Option ℕ). is_some (dest_of s.instr) && is_finished_before z next) e
    ∙ and_right (is_some (dest_of s.instr)) false refl

none_stays : (next : ℕ) (s : Station) → s.finish ≡ None → has_stayed next (Some s) ≡ false
none_stays next s e = ap (λ (z : Option ℕ). not (is_some (dest_of s.instr)) && is_finished_before z next) e
    ∙ and_right (not (is_some (dest_of s.instr))) false refl

-- an instruction issues to an empty place
pub known_issued : {slots : List (Option Station)} (x : ℕ) {next : ℕ} (s : Station) {f : Finishes} → x < length slots
    → IsTimetableOf slots next f → slot slots x ≡ None → s.finish ≡ None
    → IsTimetableOf (slice_set slots x (Some s)) next f
known_issued x {next} s l known empty idle = known_same x (Some s) l known
    (λ v. none_finishes v s idle ∙ sym (ap (finishes v) empty))
    (none_sends next s idle ∙ sym (ap (can_send next) empty))
    (none_stays next s idle ∙ sym (ap (has_stayed next) empty))

none_of : (o : Option Station) → is_none o ≡ true → o ≡ None
none_of None e = refl
none_of (Some s) e = let z : false ≡ true = e in absurd (cc)

pub known_taken : {slots : List (Option Station)} (new : List (Option Station)) {next : ℕ} (number count : ℕ)
    (pool : PoolId) (s : Station) {f : Finishes} → new ≡ slice_set slots (16 * place_of_pool pool + number) (Some s)
    → is_open slots pool number ≡ true → number < count → count ≤ 16 → s.finish ≡ None → IsTimetableOf slots next f
    → IsTimetableOf new next f
known_taken {slots} new number count pool s made empty less few idle known =
    let low : place_of_pool pool < 6 = pool_low pool in
    rw made (known_issued (16 * place_of_pool pool + number) s (omega arith) known
    (none_of (slot slots (16 * place_of_pool pool + number)) empty) idle)

address_keeps : (s : Station)
    → ((with_address s).finish ≡ s.finish) × (dest_of (with_address s).instr ≡ dest_of s.instr)
address_keeps s = of s.j refl
  where
    of : (j : Field) → s.j ≡ j
        → ((with_address s).finish ≡ s.finish) × (dest_of (with_address s).instr ≡ dest_of s.instr)
    of j e = grind (arith, nat_tests)

-- an address is computed
pub known_addressed : {slots : List (Option Station)} (new : List (Option Station)) (x : ℕ) {next : ℕ} {f : Finishes}
    → IsSome (slot slots x)
    → new ≡ slice_set slots x (option_map with_address (slot slots x)) → IsTimetableOf slots next f
    → IsTimetableOf new next f
known_addressed {slots} new x {next} {f} some made known = rw made (of (slot slots x) refl)
  where
    of : (o : Option Station) → slot slots x ≡ o → IsTimetableOf (slice_set slots x (option_map with_address o)) next f
    of None e = let z : false ≡ true = rw e at some in absurd (cc)
    of (Some s) e =
        let keeps = address_keeps s in
        known_same x (Some (with_address s)) (inside_of slots x s e) known
        (λ v. ap (λ (z : Option ℕ). is_number z v) keeps.0 ∙ sym (ap (finishes v) e))
        (rw (keeps.0, keeps.1) (sym (ap (can_send next) e))) (rw (keeps.0, keeps.1) (sym (ap (has_stayed next) e)))

-- An operation starts.

pub lacks_idle : {slots : List (Option Station)} (x : ℕ) {next : ℕ} (s : Station) {f : Finishes} → x < 96
    → IsTimetableOf slots next f → slot slots x ≡ Some s → s.finish ≡ None → Lacks f.wheel x
lacks_idle x {next} s l known at idle a = elim (cases_Bool (nat_lt a 64)) [
  | inl k ↦ known.ahead a x (ltb-true a 64 k) l ∙ (ap (finishes (next + a)) at ∙ none_finishes (next + a) s idle)
  | inr k ↦ rw k refl
]

shift_test : (next a latency : ℕ) → 1 ≤ latency → (a == latency - 1) ≡ ((next + latency - 1) == (next + a))
shift_test next a latency some = grind (arith, nat_tests)

pub known_started : {slots : List (Option Station)} (x : ℕ) {next : ℕ} (latency value : ℕ) (s : Station) {f : Finishes}
    (wheel : List ℕ) → x < 96 → IsTimetableOf slots next f → slot slots x ≡ Some s → s.finish ≡ None
    → (1 ≤ latency) × (latency ≤ 64) → HasPut (latency - 1) x f.wheel wheel
    → IsTimetableOf (slice_set slots x (Some (with_start (next + latency - 1) value s))) next
    (record { wheel = wheel; unsent = f.unsent })
known_started {slots} x {next} latency value s {f} wheel m known at idle few put = record {
  places = length-set slots x new ∙ known.places;
  ahead = λ a y k n. put a y ∙ elim (cases_Bool (x == y)) [
    | inl e ↦
        let same : x ≡ y = eqb-true x y e in
        let none : is_due f.wheel a x ≡ false = lacks_idle x s m known at idle a in
        rw (← same, none, eq-eqb x x refl, get_or-set_same slots x new None l, ← shift_test next a latency few.0)
        (and_true (a == latency - 1))
    | inr e ↦
        let apart : (y == x) ≡ false = ne_eqb y x (λ z. eqb-false x y e (sym z)) in
        rw (
          apart,
          and_right (a == latency - 1) false refl,
          get_or-set_other slots x y new None (λ z. eqb-false x y e (sym z)),
        ) (or_false (is_due f.wheel a y) ∙ known.ahead a y k n)
  ];
  near = λ y v n e. elim (cases_Bool (x == y)) [
    | inl k ↦
        let same : x ≡ y = eqb-true x y k in
        let done : ((next + latency - 1) == v) ≡ true = rw (← same, get_or-set_same slots x new None l) at e in
        let at : next + latency - 1 ≡ v = eqb-true (next + latency - 1) v done in
        let most : latency ≤ 64 = few.1 in
        omega arith
    | inr k ↦ known.near y v n (sym
        (ap (finishes v) (get_or-set_other slots x y new None (λ z. eqb-false x y k (sym z)))) ∙ e)
  ];
  low = λ a y e. elim (cases_Bool (x == y)) [
    | inl k ↦ let same : x ≡ y = eqb-true x y k in rw (← same) m
    | inr k ↦
        let apart : (y == x) ≡ false = ne_eqb y x (λ z. eqb-false x y k (sym z)) in
        known.low a y (sym (put a y ∙ rw (apart, and_right (a == latency - 1) false refl)
        (or_false (is_due f.wheel a y))) ∙ e)
  ];
  unsent = λ y n. known.unsent y n ∙ sym (kept_test (can_send next) slots x y new l
      (late (is_some (dest_of s.instr)) ∙ sym (ap (can_send next) at ∙ none_sends next s idle)));
  gone = λ y n. kept_test (has_stayed next) slots x y new l (late (not (is_some (dest_of s.instr)))
      ∙ sym (ap (has_stayed next) at ∙ none_stays next s idle)) ∙ known.gone y n;
}
  where
    new : Option Station
    new = Some (with_start (next + latency - 1) value s)

    l : x < length slots
    l = inside_of slots x s at

    and_true : (b : Bool) → (false || (b && true)) ≡ b
    and_true b = grind (arith, nat_tests)

    late : (b : Bool) → (b && nat_lt (next + latency - 1) next) ≡ false
    late b = rw (le-ltb (next + latency - 1) next (let k : 1 ≤ latency = few.0 in omega arith)) (and_right b false refl)

-- Before the first cycle.

none_stands : (x : ℕ) → slice_index_or (replicate {A = Option Station} 96 None) x None ≡ None
none_stands x = elim (cases_Bool (nat_lt x 96)) [
  | inl l ↦ get_or-replicate 96 x None None (ltb-true _ _ l)
  | inr l ↦ let high : 96 ≤ x = ltb-false _ _ l in get_or_past (replicate 96 None) x None high
]

pub known_first : (slots : List (Option Station)) (f : Finishes) → slots ≡ replicate 96 None → IsEmpty f.wheel
    → f.unsent ≡ 0 → IsTimetableOf slots 1 f
known_first slots f e empty unsent = rw e (record {
  places = refl;
  ahead = λ a x l m. empty a x ∙ sym (ap (finishes (1 + a)) (none_stands x));
  near = λ x v l e. absurd (both_ways _ (ap (finishes v) (none_stands x)) e);
  low = λ a x e. absurd (both_ways _ (empty a x) e);
  unsent = λ x l. rw unsent (none_in x) ∙ sym (ap (can_send 1) (none_stands x));
  gone = λ x l. ap (has_stayed 1) (none_stands x);
})

-- Beyond the wheel nothing finishes.
pub all_ahead : {slots : List (Option Station)} {next : ℕ} (a x : ℕ) {f : Finishes} → IsTimetableOf slots next f
    → x < 96 → is_due f.wheel a x ≡ finishes (next + a) (slot slots x)
all_ahead {slots} {next} a x known l = grind (arith, nat_tests)

-- What is known of the finishes ahead once cycles are passed in which nothing finishes.

pub free_to : {slots : List (Option Station)} (cycle k : ℕ) {f : Finishes} → IsTimetableOf slots (cycle + 1) f
    → f.unsent ≡ 0 → IsClearTo f.wheel k → IsFree slots cycle (cycle + k)
free_to {slots} cycle k {f} known none clear x v l from to = elim
    (cases_Bool (finishes v (slot slots x))) [
      | inr e ↦ e
      | inl e ↦ elim (cases_Bool (v == cycle)) [
        | inl h ↦
            let here : v ≡ cycle = eqb-true v cycle h in
            absurd (done_now (slot slots x) (rw here at e) (sym (known.unsent x (omega arith))
            ∙ rw none (none_in x)) (known.gone x l))
        | inr h ↦
            let later : v ≢ cycle = eqb-false v cycle h in
            let at : cycle + 1 + (v - cycle - 1) ≡ v = omega arith in
            absurd (both_ways (is_due f.wheel (v - cycle - 1) x) (clear (v - cycle - 1) x (omega arith)) (all_ahead
            (v - cycle - 1) x known l ∙ (ap (λ (u : ℕ). finishes u (slot slots x)) at ∙ e)))
      ]
    ]
  where
    of_finish : (finish : Option ℕ) (r : Bool) → is_number finish cycle ≡ true
        → (r && is_finished_before finish (cycle + 1)) ≡ false
        → (not r && is_finished_before finish (cycle + 1)) ≡ false → ⊥
    of_finish finish r e f g = grind (arith, nat_tests)

    done_now : (o : Option Station) → finishes cycle o ≡ true → can_send (cycle + 1) o ≡ false
        → has_stayed (cycle + 1) o ≡ false → ⊥
    done_now o e f g = grind (arith, nat_tests)

before_later : (cycle w : ℕ) (r : Bool) (finish : Option ℕ) → cycle + 1 ≤ w
    → (r && is_finished_before finish (cycle + 1)) ≡ false
    → ((v : ℕ) → cycle ≤ v → v ≤ w - 1 → is_number finish v ≡ false) → (r && is_finished_before finish w) ≡ false
before_later cycle w r None l e free = e
before_later cycle w false (Some v) l e free = refl
before_later cycle w true (Some v) l e free = elim (cases_Bool (nat_lt v w)) [
  | inr k ↦ k
  | inl k ↦
      let low : v < w = ltb-true v w k in
      let high : cycle + 1 ≤ v = ltb-false v (cycle + 1) e in
      absurd (both_ways (v == v) (free v (omega arith) (omega arith)) (eq-eqb v v refl))
]

send_later : (cycle w : ℕ) (o : Option Station) → cycle + 1 ≤ w → can_send (cycle + 1) o ≡ false
    → ((v : ℕ) → cycle ≤ v → v ≤ w - 1 → finishes v o ≡ false) → can_send w o ≡ false
send_later cycle w None l e free = refl
send_later cycle w (Some s) l e free = before_later cycle w (is_some (dest_of s.instr)) s.finish l e free

stay_later : (cycle w : ℕ) (o : Option Station) → cycle + 1 ≤ w → has_stayed (cycle + 1) o ≡ false
    → ((v : ℕ) → cycle ≤ v → v ≤ w - 1 → finishes v o ≡ false) → has_stayed w o ≡ false
stay_later cycle w None l e free = refl
stay_later cycle w (Some s) l e free = before_later cycle w (not (is_some (dest_of s.instr))) s.finish l e free

pub known_later : {slots : List (Option Station)} (cycle k : ℕ) {f : Finishes} (g : Finishes)
    → IsTimetableOf slots (cycle + 1) f → f.unsent ≡ 0 → IsClearTo f.wheel k → HasPassed k f.wheel g.wheel
    → g.unsent ≡ f.unsent → IsTimetableOf slots (cycle + k + 1) g
known_later {slots} cycle k g known none clear passed unsent =
    let free : IsFree slots cycle (cycle + k) = free_to cycle k known none clear in
    let count : length slots ≡ 96 = known.places in
    record {
      places = count;
      ahead = λ a x l m. let at : cycle + 1 + (a + k) ≡ cycle + k + 1 + a = omega arith in
          passed a x ∙ (all_ahead (a + k) x known m ∙ ap (λ (v : ℕ). finishes v (slot slots x)) at);
      near = λ x v l e. let n : v < cycle + 1 + 64 = known.near x v l e in omega arith;
      low = λ a x e. known.low (a + k) x (sym (passed a x) ∙ e);
      unsent = λ x l. rw (unsent, none) (none_in x) ∙ sym (elim (cases_Bool (nat_lt x 96)) [
        | inl m ↦
            let low : x < 96 = ltb-true x 96 m in
            send_later cycle (cycle + k + 1) (slot slots x) (omega arith) (sym (known.unsent x l)
            ∙ rw none (none_in x)) (λ v from to. free x v low from (omega arith))
        | inr m ↦ let high : 96 ≤ x = ltb-false x 96 m in
            let past : slot slots x ≡ None = get_or_past slots x None (omega arith) in rw past refl
      ]);
      gone = λ x l. stay_later cycle (cycle + k + 1) (slot slots x) (omega arith) (known.gone x l)
          (λ v from to. free x v l from (omega arith));
    }

pub clear_skipped : (next : Option ℕ) (w : List ℕ) (most n : ℕ) → IsNext w next → CanSkip next most n → IsClearTo w n
clear_skipped None w most n empty skips a x l = empty a x
clear_skipped (Some ahead) w most n is skips a x l = let few : n ≤ ahead = skips.0 in is.1 a x (omega arith)
