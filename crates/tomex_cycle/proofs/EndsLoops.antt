-- What ends in one place after another, and what is sent by them together.
use Rattle.tomex_cycle.proofs.Words.{nat_lt, ◌&&◌, ◌==◌, le-ltb, nat_tests, eqb-false, ne_eqb, field_from, Field, Value}
use Rattle.tomex_cycle.proofs.Words.{Unread, Tag, is_number, EndsIn, Receives, after_ends, sends_of, sent_below, hears}
use Rattle.tomex_cycle.proofs.Words.{field_after, only, value_or_tag, place_at, place_of_tag, Pools, RegStatus, Station}
use Rattle.tomex_cycle.proofs.Words.{has, ◌||◌, slot, if◌then◌else◌, cases_Bool, lt-ltb, eqb-true, get_or-set_same}
use Rattle.tomex_cycle.proofs.Words.{get_or-set_other, length-set, AreNamed, HaveReceived, AreFrom, all_left}
use Rattle.tomex_cycle.proofs.Words.{none_after, skip_to, dest_of, AreLow, ℕ, ◌+◌, ◌<◌, ◌≡◌, ◌∙◌, Bool, true, false}
use Rattle.tomex_cycle.proofs.Words.{arith, refl, List, Option, Some, None, ap, sym, length, slice_index}
use Rattle.tomex_cycle.proofs.Words.{slice_index_or, option_map, ◌≤◌, inl, inr, slice_set, AreEnded, names}
use Rattle.tomex_cycle.proofs.Words.{registers_after}
use Rattle.tomex_timing.specs.declared.tables.Field.TheVariants.{Waits}
use Rattle.tomex_cycle.proofs.Addresses.{or_else}
use Rattle.tomex_cycle.proofs.Truth.{IsTaken, turn_at}
use Rattle.tomex_cycle.proofs.Known.{inside_of}

-- A broadcast to registers.

abbrev pub reg_field : List ℕ → List (Option Tag) → ℕ → Field
reg_field values tags r = field_from (slice_index values r) (slice_index_or tags r None)

-- All ends of a cycle.

pub record AreEndedBelow (picked : ℕ) (n : ℕ) (old new : Pools) : Type 0 where
  pub places : length new.slots ≡ 96
  pub slots : (x : ℕ) → x < 96 → slot new.slots x ≡ after_ends (nat_lt x n && has picked x)
      (sent_below old.slots picked n) (slot old.slots x)
  pub issue_numbers : new.issue_numbers ≡ old.issue_numbers

-- A register that receives a value, or not.

pub heard_yes : (from value v : ℕ) (tag : Option Tag) → is_number (place_at tag) from ≡ true
    → field_after (only from (Some value)) (field_from v tag) ≡ Value value
heard_yes from value v tag h4 = grind (arith, nat_tests)

pub heard_no : (from value v : ℕ) (tag : Option Tag) → is_number (place_at tag) from ≡ false
    → field_after (only from (Some value)) (field_from v tag) ≡ field_from v tag
heard_no from value v None e = refl
heard_no from value v (Some tag) e = rw (ne_eqb from (place_of_tag tag) (λ z. eqb-false _ _ e (sym z))) refl

-- One end after others.

heard_then : (f g k : ℕ → Option ℕ) (field : Field) → ((y : ℕ) → k y ≡ or_else (f y) (g y))
    → field_after g (field_after f field) ≡ field_after k field
heard_then f g k field h4 = grind (arith, nat_tests)

pub heard_same : (f k : ℕ → Option ℕ) (field : Field) → ((y : ℕ) → k y ≡ f y)
    → field_after f field ≡ field_after k field
heard_same f k (Value v) e = refl
heard_same f k Unread e = refl
heard_same f k (Waits tag) e = ap (λ o. value_or_tag o tag) (sym (e (place_of_tag tag)))

hears_then : (f g k : ℕ → Option ℕ) (s : Station) → ((y : ℕ) → k y ≡ or_else (f y) (g y))
    → hears g (hears f s) ≡ hears k s
hears_then f g k s e = rw (heard_then f g k s.j e, heard_then f g k s.k e) refl

hears_same : (f k : ℕ → Option ℕ) (s : Station) → ((y : ℕ) → k y ≡ f y) → hears f s ≡ hears k s
hears_same f k s e = rw (heard_same f k s.j e, heard_same f k s.k e) refl

ends_then : (a b : Bool) (f g k : ℕ → Option ℕ) (o : Option Station) → ((y : ℕ) → k y ≡ or_else (f y) (g y))
    → after_ends b g (after_ends a f o) ≡ after_ends (b || a) k o
ends_then a true f g k o e = refl
ends_then true false f g k o e = refl
ends_then false false f g k None e = refl
ends_then false false f g k (Some s) e = ap (λ (x : Station). Some x) (hears_then f g k s e)

pub ends_same : (a : Bool) (f k : ℕ → Option ℕ) (o : Option Station) → ((y : ℕ) → k y ≡ f y)
    → after_ends a f o ≡ after_ends a k o
ends_same true f k o e = refl
ends_same false f k None e = refl
ends_same false f k (Some s) e = ap (λ (x : Station). Some x) (hears_same f k s e)

-- what is sent below the next place
sent_yes : (slots : List (Option Station)) (picked : ℕ) (n y : ℕ) (s : Option ℕ) → has picked n ≡ true
    → s ≡ sends_of (slot slots n) → sent_below slots picked (n + 1) y ≡ or_else (sent_below slots picked n y)
    (only n s y)
sent_yes slots picked n y s e f = grind (arith, nat_tests)

sent_no : (slots : List (Option Station)) (picked : ℕ) (n y : ℕ) → has picked n ≡ false
    → sent_below slots picked (n + 1) y ≡ sent_below slots picked n y
sent_no slots picked n y e = grind (arith, nat_tests)

below_yes : (picked : ℕ) (n x : ℕ) → has picked n ≡ true
    → ((n == x) || (nat_lt x n && has picked x)) ≡ (nat_lt x (n + 1) && has picked x)
below_yes picked n x e = grind (arith, nat_tests)

below_no : (picked n x : ℕ) → has picked n ≡ false → (nat_lt x n && has picked x) ≡ (nat_lt x (n + 1) && has picked x)
below_no picked n x e = grind (arith, nat_tests)

sends_after : (f : ℕ → Option ℕ) (o : Option Station) → sends_of (option_map (hears f) o) ≡ sends_of o
sends_after f None = refl
sends_after f (Some s) = refl

-- what the next place sends is what it had at first
sends_still : {picked n : ℕ} {old s : Pools} → n < 96 → AreEndedBelow picked n old s
    → sends_of (slot s.slots n) ≡ sends_of (slot old.slots n)
sends_still {picked} {n} {old} l so = ap sends_of (so.slots n l) ∙ rw (le-ltb n n (omega arith))
    (sends_after (sent_below old.slots picked n) (slot old.slots n))

pub apply_yes : {picked n : ℕ} {old s : Pools} (new : Pools) → n < 96 → has picked n ≡ true
    → AreEndedBelow picked n old s → EndsIn (λ x. n == x) (only n (sends_of (slot s.slots n))) s new
    → AreEndedBelow picked (n + 1) old new
apply_yes {picked} {n} {old} {s} new l e so made =
    let m = made so.places in
    let sent = sends_still l so in
    record {
      places = m.places;
      slots = λ x k. m.slots x k ∙ (ap (after_ends (n == x) (only n (sends_of (slot s.slots n))))
          (so.slots x k) ∙ (ends_then (nat_lt x n && has picked x) (n == x) (sent_below old.slots picked n)
          (only n (sends_of (slot s.slots n))) (sent_below old.slots picked (n + 1))
          (slot old.slots x)
          (λ y. sent_yes old.slots picked n y (sends_of (slot s.slots n)) e sent) ∙ ap
          (λ b. after_ends b (sent_below old.slots picked (n + 1)) (slot old.slots x))
          (below_yes picked n x e)));
      issue_numbers = m.issue_numbers ∙ so.issue_numbers;
    }

pub apply_no : {picked n : ℕ} {old s : Pools} → has picked n ≡ false → AreEndedBelow picked n old s
    → AreEndedBelow picked (n + 1) old s
apply_no {picked} {n} {old} e so = record {
  places = so.places;
  slots = λ x k. so.slots x k ∙ (ends_same (nat_lt x n && has picked x) (sent_below old.slots picked n)
      (sent_below old.slots picked (n + 1)) (slot old.slots x) (λ y. sent_no old.slots picked n y e)
      ∙ ap (λ b. after_ends b (sent_below old.slots picked (n + 1)) (slot old.slots x))
      (below_no picked n x e));
  issue_numbers = so.issue_numbers;
}

pub hear_yes : {picked n : ℕ} {old s : Pools} (first r new : RegStatus) → n < 96 → has picked n ≡ true
    → AreEndedBelow picked n old s → Receives (sent_below old.slots picked n) first r
    → Receives (only n (sends_of (slot s.slots n))) r new
    → Receives (sent_below old.slots picked (n + 1)) first new
hear_yes {picked} {n} {old} {s} first r new l e so before made count status =
    let b = before count status in
    let m = made b.count b.status in
    let sent = sends_still l so in
    record {
      count = m.count;
      status = m.status;
      fields = λ q k. m.fields q k ∙ (ap (field_after (only n (sends_of (slot s.slots n)))) (b.fields q k)
          ∙ heard_then (sent_below old.slots picked n) (only n (sends_of (slot s.slots n)))
          (sent_below old.slots picked (n + 1)) (reg_field first.values first.tags q)
          (λ y. sent_yes old.slots picked n y (sends_of (slot s.slots n)) e sent));
    }

pub hear_no : (picked : ℕ) (n : ℕ) (old : Pools) (first r : RegStatus) → has picked n ≡ false
    → Receives (sent_below old.slots picked n) first r → Receives (sent_below old.slots picked (n + 1)) first r
hear_no picked n old first r e before count status =
    let b = before count status in
    record {
      count = b.count;
      status = b.status;
      fields = λ q k. b.fields q k ∙ heard_same (sent_below old.slots picked n) (sent_below old.slots picked (n + 1))
          (reg_field first.values first.tags q) (λ y. sent_no old.slots picked n y e);
    }

-- A place ends.

none_hears : (p : ℕ) (o : Option Station) → option_map (hears (only p None)) o ≡ o
none_hears p o = grind (arith, nat_tests)

released_at : (xs : List (Option Station)) (p x : ℕ) → p < length xs
    → slice_index_or (slice_set xs p None) x None ≡ (if p == x then None else slice_index_or xs x None)
released_at xs p x l = elim (cases_Bool (p == x)) [
  | inl e ↦ let same : p ≡ x = eqb-true p x e in rw (e, ← same) (get_or-set_same xs p None None l)
  | inr e ↦ rw e (get_or-set_other xs p x None None (λ z. eqb-false p x e (sym z)))
]

-- what has nothing to send is released
pub ends_silent : (p : ℕ) (old new : Pools) (s : Station) → p < 96 → slot old.slots p ≡ Some s
    → dest_of s.instr ≡ None → new.slots ≡ slice_set old.slots p None → new.issue_numbers ≡ old.issue_numbers
    → EndsIn (λ x. p == x) (only p (sends_of (slot old.slots p))) old new
ends_silent p old new s l here dest slots issue_numbers count = record {
  places = ap length slots ∙ (length-set old.slots p None ∙ count);
  slots = λ x k. ap (λ xs. slice_index_or xs x None) slots ∙ (released_at old.slots p x (omega arith) ∙ grind
      (arith, nat_tests, none_hears p (slot old.slots x)));
  issue_numbers = issue_numbers;
}

-- The register of its destination, if its Qi still names the place.

received_hears : (p r v : ℕ) (rg : RegStatus) → r < 32 → ((q : ℕ) → q < 32 → names rg q p ≡ true → q ≡ r)
    → Receives (only p (Some v)) rg (registers_after rg r p v)
received_hears p r v rg l named count status = elim (cases_Bool (names rg r p)) [
  | inr e ↦ rw e (record { count = count; status = status; fields = λ q k. grind (arith, nat_tests) })
  | inl e ↦ rw e (record {
    count = length-set rg.values r v ∙ count;
    status = length-set rg.tags r None ∙ status;
    fields = λ q k. elim (cases_Bool (r == q)) [
      | inl f ↦
          let same : r ≡ q = eqb-true r q f in
          rw (← same, get_or-set_same rg.values r v 0 (omega arith), get_or-set_same rg.tags r None None (omega arith))
          (sym (heard_yes p v (slice_index rg.values r) (slice_index_or rg.tags r None) e))
      | inr f ↦
          let apart : q ≡ r → ⊥ = λ z. eqb-false r q f (sym z) in
          rw (get_or-set_other rg.values r q v 0 apart, get_or-set_other rg.tags r q None None apart)
          (elim (cases_Bool (names rg q p)) [
            | inr g ↦ sym (heard_no p v (slice_index rg.values q) (slice_index_or rg.tags q None) g)
            | inl g ↦ absurd (apart (named q k g))
          ])
    ];
  })
]

pub hears_sending : (p r : ℕ) (slots : List (Option Station)) (s : Station) (rg new : RegStatus)
    → slot slots p ≡ Some s → dest_of s.instr ≡ Some r → r < 32 → new ≡ registers_after rg r p s.value
    → AreNamed slots rg → Receives (only p (sends_of (slot slots p))) rg new
hears_sending p r slots s rg new here dest l made named =
    rw (here, dest, made) (received_hears p r s.value rg l (λ q k e. let f : dest_of s.instr ≡ Some q =
    named q p k e s here in one_register (dest_of s.instr) q r f dest))
  where
    one_register : (o : Option ℕ) (q r : ℕ) → o ≡ Some q → o ≡ Some r → q ≡ r
    one_register o q r e f = cc

none_sent : (sent : ℕ → Option ℕ) (f : Field) → ((y : ℕ) → sent y ≡ None) → f ≡ field_after sent f
none_sent sent f h2 = grind (arith, nat_tests)

pub hears_none : (sent : ℕ → Option ℕ) (o : Option Station) → ((y : ℕ) → sent y ≡ None) → o ≡ after_ends false sent o
hears_none sent o h2 = grind (arith, nat_tests)

-- registers still name who they named
named_still : {picked k : ℕ} {old s : Pools} {first r : RegStatus} → AreNamed old.slots first
    → AreEndedBelow picked k old s → length s.slots ≡ 96 → HaveReceived (sent_below old.slots picked k) first r
    → AreNamed s.slots r
named_still {picked} {k} {old} {s} {first} {r} named so count heard_ q x l e station here =
    let inside : x < length s.slots = inside_of s.slots x station here in
    let low : x < 96 = omega arith in
    let before = named_by (sent_below old.slots picked k) (slice_index first.values q) (slice_index r.values q)
    (slice_index_or first.tags q None) (slice_index_or r.tags q None) x (heard_.fields q l) e in
    let from = stood (nat_lt x k && has picked x) (sent_below old.slots picked k) (slot old.slots x) station
    (sym (so.slots x low) ∙ here) in
    let dest : dest_of from.0.instr ≡ Some q = named q x l before from.0 from.1 in
    ap dest_of from.2 ∙ dest
  where
    stood : (b : Bool) (sent : ℕ → Option ℕ) (o : Option Station) (s : Station) → after_ends b sent o ≡ Some s
        → (z : Station) × (o ≡ Some z) × (s.instr ≡ z.instr)
    stood b sent o s e = grind (arith, nat_tests)

    named_by : (sent : ℕ → Option ℕ) (a b : ℕ) (p q : Option Tag) (x : ℕ)
        → field_from b q ≡ field_after sent (field_from a p) → is_number (place_at q) x ≡ true
        → is_number (place_at p) x ≡ true
    named_by sent a b p q x e f = grind (arith, nat_tests)

-- The loop over the places that end, the least first.

pub record AreApplied (picked rest : ℕ) (old s : Pools) (first r : RegStatus) : Type 0 where
  pub k : ℕ
  pub from : AreFrom picked rest k
  pub high : k ≤ 96
  pub stations : AreEndedBelow picked k old s
  pub registers : AreNamed old.slots first → Receives (sent_below old.slots picked k) first r

pub first_applied : (picked : ℕ) (st : Pools) (rg : RegStatus) → length st.slots ≡ 96
    → AreApplied picked picked st st rg rg
first_applied picked st rg count = record {
  k = 0;
  from = all_left picked;
  high = omega arith;
  stations = record {
    places = count;
    slots = λ x l. hears_none (sent_below st.slots picked 0) (slot st.slots x)
        (λ y. rw (le-ltb y 0 (omega arith)) refl) ∙ sym (ap
        (λ b. after_ends (b && has picked x) (sent_below st.slots picked 0) (slot st.slots x))
        (le-ltb x 0 (omega arith)));
    issue_numbers = refl;
  };
  registers = λ named n m. record {
    count = n;
    status = m;
    fields = λ r l. none_sent (sent_below st.slots picked 0) (reg_field rg.values rg.tags r)
        (λ y. rw (le-ltb y 0 (omega arith)) refl);
  };
}

-- one place more
pub one_applied : {picked rest left x : ℕ} {old s : Pools} (new : Pools) {first r : RegStatus} (status : RegStatus)
    → AreLow picked → AreApplied picked rest old s first r → IsTaken rest x left
    → EndsIn (λ y. x == y) (only x (sends_of (slot s.slots x))) s new
    × (AreNamed s.slots r → Receives (only x (sends_of (slot s.slots x))) r status)
    → AreApplied picked left old new first status
one_applied {picked} {x = x} {old} {s} new {first} {r} status low so out ends =
    let turn = turn_at so.from out in
    let below : x < 96 = low x out.low turn.member in
    let here : AreEndedBelow picked x old s = skip_to (λ j. AreEndedBelow picked j old s) picked so.k x turn.from
    turn.none (λ j e b. apply_no e b) so.stations in
    record {
      k = x + 1;
      from = turn.next;
      high = omega arith;
      stations = apply_yes new below turn.member here ends.0;
      registers = λ named count tags.
          let heard_ = skip_to (λ j. Receives (sent_below old.slots picked j) first r) picked so.k x turn.from turn.none
          (λ j e b. hear_no picked j old first r e b) (so.registers named) in
          hear_yes first r status below turn.member here heard_
          (ends.1 (named_still named here here.places (heard_ count tags))) count tags;
    }

pub all_applied : {picked rest : ℕ} {old s : Pools} {first r : RegStatus} → AreLow picked
    → AreApplied picked rest old s first r → rest ≡ 0
    → AreEndedBelow picked 96 old s × (AreNamed old.slots first → Receives (sent_below old.slots picked 96) first r)
all_applied {picked} {rest} {old} {s} {first} {r} low so empty =
    let none : (j : ℕ) → so.k ≤ j → j < 96 → has picked j ≡ false =
    λ j from to. none_after picked rest so.k so.from empty j from (omega arith) in (
      skip_to (λ j. AreEndedBelow picked j old s) picked so.k 96 so.high none (λ j e b. apply_no e b) so.stations,
      λ named. skip_to (λ j. Receives (sent_below old.slots picked j) first r) picked so.k 96 so.high none
          (λ j e b. hear_no picked j old first r e b) (so.registers named),
    )

pub ended_below : {picked : ℕ} {old new : Pools} → AreEndedBelow picked 96 old new
    → AreEnded (λ x. has picked x) (sent_below old.slots picked 96) old new
ended_below {picked} {old} so = record {
  places = so.places;
  slots = λ x l. so.slots x l ∙ ap
      (λ b. after_ends (b && has picked x) (sent_below old.slots picked 96) (slot old.slots x))
      (lt-ltb x 96 l);
  issue_numbers = so.issue_numbers;
}
