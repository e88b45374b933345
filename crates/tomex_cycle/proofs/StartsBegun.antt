-- The picked operations start one after the other, each over the same memory.
use Rattle.tomex_cycle.proofs.Words.{nat_lt, ◌&&◌, ◌==◌, ◌≢◌, is_some, both_ways, cases_Bool, lt-ltb, le-ltb, nat_tests}
use Rattle.tomex_cycle.proofs.Words.{eqb-true, eqb-false, get_or-set_same, get_or-set_other, length-set, Configuration}
use Rattle.tomex_cycle.proofs.Words.{Bytes, Fault, AllCanBegin, CanBegin, HaveBegun, station_after_start}
use Rattle.tomex_cycle.proofs.Words.{station_after_start_if, AreLow, Pools}
use Rattle.tomex_cycle.proofs.Words.{Station, has, IsWithout, AreFrom, all_left, none_after, skip_to, slot}
use Rattle.tomex_cycle.proofs.Words.{if◌then◌else◌, IfSome, and_parts, ByteRange, IsInside, byte_in, covers, overwrites}
use Rattle.tomex_cycle.proofs.Words.{stored_byte, bytes_of, AllInside, HaveStored, stored_at, written_by, step_in}
use Rattle.tomex_cycle.proofs.Words.{IsSetOf, length, slice_index_or, slice_set, ℕ, ◌+◌, ◌<◌, ◌≡◌, ◌∙◌, Bool, true}
use Rattle.tomex_cycle.proofs.Words.{false, arith, refl, Option, Some, None, ap, sym, inl, inr, ◌≤◌, zero, suc, List}
use Rattle.tomex_cycle.proofs.Words.{HasStored, holds_store, and_right}
use Rattle.tomex_cycle.proofs.Truth.{IsTaken, IsTurn, turn_at}

pub none_begun : (config : Configuration) (next : ℕ) (m : Bytes) (picked : ℕ) (st : Pools) → length st.slots ≡ 96
    → HaveBegun config next m picked 0 st st
none_begun config next m picked st e =
    record { places = e; slots = λ x l. rw (le-ltb x 0 (omega arith)) refl; issue_numbers = refl }

-- tests of places below k + 1
below_more : (x k : ℕ) (b : Bool) → (x ≡ k → b ≡ false) → (nat_lt x (k + 1) && b) ≡ (nat_lt x k && b)
below_more x k b e = grind (arith, nat_tests)

below_other : (x k : ℕ) (b : Bool) → (x ≡ k → ⊥) → (nat_lt x (k + 1) && b) ≡ (nat_lt x k && b)
below_other x k b e = below_more x k b (λ z. absurd (e z))

-- the station of a place that is to start is still as it was
pub still_old : {config : Configuration} {next k : ℕ} {m : Bytes} {picked : ℕ} {old now : Pools} → k < 96
    → HaveBegun config next m picked k old now → slot now.slots k ≡ slot old.slots k
still_old {k} l before = before.slots k l ∙ rw (le-ltb k k (omega arith)) refl

-- a place that isn't picked changes nothing
skip_begun : {config : Configuration} {next k : ℕ} {m : Bytes} {picked : ℕ} {old now : Pools} → has picked k ≡ false
    → HaveBegun config next m picked k old now → HaveBegun config next m picked (k + 1) old now
skip_begun {config} {next} {k} {m} {picked} {old} none before = record {
  places = before.places;
  slots = λ x f. before.slots x f ∙ sym (ap (λ b. station_after_start_if config next m b (slot old.slots x))
      (below_more x k (has picked x) (λ e. rw e none)));
  issue_numbers = before.issue_numbers;
}

pub begun_here : {config : Configuration} {next k : ℕ} {m : Bytes} {picked : ℕ} {old now : Pools} (new : Pools) → k < 96
    → has picked k ≡ true
    → ((s : Station) → slot now.slots k ≡ Some s → CanBegin m s
    → new.slots ≡ slice_set now.slots k (Some (station_after_start config next m s))) → new.issue_numbers
    ≡ now.issue_numbers
    → AllCanBegin m picked old.slots → HaveBegun config next m picked k old now
    → HaveBegun config next m picked (k + 1) old new
begun_here {config} {next} {k} {m} {picked} {old} {now} new l pick set issue_numbers can before =
    let (s, here, begins) = can k l pick in
    let made : Station = station_after_start config next m s in
    let slots : new.slots ≡ slice_set now.slots k (Some made) = set s (still_old l before ∙ here) begins in
    record {
      places = ap length slots ∙ (length-set now.slots k (Some made) ∙ before.places);
      slots = λ x f. ap (λ xs. slice_index_or xs x None) slots ∙ elim (cases_Bool (x == k)) [
        | inl e ↦
            let same : x ≡ k = eqb-true _ _ e in
            let n : length now.slots ≡ 96 = before.places in
            rw (same, here, pick, lt-ltb k (k + 1) (omega arith))
            (get_or-set_same now.slots k (Some made) None (omega arith))
        | inr e ↦ get_or-set_other now.slots k x (Some made) None (eqb-false _ _ e)
            ∙ (before.slots x f ∙ sym (ap (λ b. station_after_start_if config next m b (slot old.slots x))
            (below_other x k (has picked x) (eqb-false _ _ e))))
      ];
      issue_numbers = issue_numbers ∙ before.issue_numbers;
    }

pub some_not : {A : Type 0} (o : Option A) → true ≡ is_some o → o ≡ None → ⊥
some_not o e f = grind (arith, nat_tests)

-- what is left of a set is in it, and isn't what was taken out
pub left_in : {rest place left : ℕ} (x : ℕ) → IsWithout rest place left → x < 128 → has left x ≡ true
    → (x ≢ place) × (has rest x ≡ true)
left_in {place} {left} x without l h =
    let apart : x ≢ place = λ same. both_ways (has left place) without.same (ap (has left) (sym same) ∙ h) in
    (apart, sym (without.others x l apart) ∙ h)

-- The loop over the picked places, the least first.

pub record IsBegun (config : Configuration) (next : ℕ) (m : Bytes) (picked rest : ℕ) (old now : Pools) : Type 0 where
  pub k : ℕ
  pub from : AreFrom picked rest k
  pub high : k ≤ 96
  pub low : AreLow picked
  pub can : AllCanBegin m picked old.slots
  pub begun : HaveBegun config next m picked k old now

pub first_begun : (config : Configuration) (next : ℕ) (m : Bytes) (picked : ℕ) (st : Pools) → length st.slots ≡ 96
    → AreLow picked → AllCanBegin m picked st.slots → IsBegun config next m picked picked st st
first_begun config next m picked st e low can = record {
  k = 0;
  from = all_left picked;
  high = omega arith;
  low = low;
  can = can;
  begun = none_begun config next m picked st e;
}

begun_to : {config : Configuration} {next x : ℕ} {m : Bytes} {picked rest left : ℕ} {old now : Pools}
    (so : IsBegun config next m picked rest old now) → IsTurn picked left so.k x
    → HaveBegun config next m picked x old now
begun_to {config} {next} {x} {m} {picked} {old = old} {now} so turn = skip_to
    (λ j. HaveBegun config next m picked j old now) picked so.k x turn.from turn.none (λ j e b. skip_begun e b) so.begun

-- no fault if all can start
pub no_fault_at : {config : Configuration} {next x : ℕ} {m : Bytes} {picked rest left : ℕ} {old now : Pools}
    (fault : Option Fault) → IsTaken rest x left
    → ((s : Station) → slot now.slots x ≡ Some s → CanBegin m s → fault ≡ None)
    → IsBegun config next m picked rest old now → fault ≡ None
no_fault_at {x = x} fault out good so =
    let turn = turn_at so.from out in
    let below : x < 96 = so.low x out.low turn.member in
    let (s, here, begins) = so.can x below turn.member in
    good s (still_old below (begun_to so turn) ∙ here) begins

pub member_begun : {config : Configuration} {next x : ℕ} {m : Bytes} {picked rest left : ℕ} {old now : Pools}
    (new : Pools) → IsTaken rest x left
    → ((s : Station) → slot now.slots x ≡ Some s → CanBegin m s
    → new.slots ≡ slice_set now.slots x (Some (station_after_start config next m s))) → new.issue_numbers
    ≡ now.issue_numbers
    → IsBegun config next m picked rest old now → IsBegun config next m picked left old new
member_begun {x = x} new out set issue_numbers so =
    let turn = turn_at so.from out in
    let below : x < 96 = so.low x out.low turn.member in
    record {
      k = x + 1;
      from = turn.next;
      high = omega arith;
      low = so.low;
      can = so.can;
      begun = begun_here new below turn.member set issue_numbers so.can (begun_to so turn);
    }

pub all_begun : {config : Configuration} {next : ℕ} {m : Bytes} {picked rest : ℕ} {old now : Pools} → rest ≡ 0
    → IsBegun config next m picked rest old now → HaveBegun config next m picked 96 old now
all_begun {config} {next} {m} {picked} {rest} {old} {now} empty so =
    skip_to (λ j. HaveBegun config next m picked j old now) picked so.k 96 so.high
    (λ j from to. none_after picked rest so.k so.from empty j from (omega arith)) (λ j e b. skip_begun e b) so.begun

-- The stores of the picked places, one after the other.

pub inside_as : (o : Option ByteRange) (a b m n : ℕ) → a ≡ b → m ≡ n → IfSome o (λ r. (b ≤ r.from) × (r.to ≤ b + n))
    → IfSome o (λ r. (a ≤ r.from) × (r.to ≤ a + m))
inside_as o a b m n e f inside = rw (e, f) inside

pub none_stored : (slots : List (Option Station)) (picked : ℕ) (m : Bytes) → HaveStored slots picked 0 m m
none_stored slots picked m = record { base = refl; size = refl; bytes = λ a l. refl }

written_more : (slots : List (Option Station)) (picked : ℕ) (byte : ℕ → ℕ) (k a : ℕ) → written_by slots picked byte
    (k + 1) a ≡ stored_at (has picked k) (slot slots k) a (written_by slots picked byte k a)
written_more slots picked byte k a = let e : k + 1 ≡ suc k = omega arith in rw e refl

pub stored_skip : (o : Option Station) (a before : ℕ) → stored_at false o a before ≡ before
stored_skip None a before = refl
stored_skip (Some s) a before = refl

pub skip_stored : {slots : List (Option Station)} {picked k : ℕ} {old now : Bytes} → has picked k ≡ false
    → HaveStored slots picked k old now → HaveStored slots picked (k + 1) old now
skip_stored {slots} {picked} {k} {old} e before = record {
  base = before.base;
  size = before.size;
  bytes = λ a l. before.bytes a l ∙ sym (written_more slots picked (byte_in old) k a ∙ rw e
      (stored_skip (slot slots k) a (written_by slots picked (byte_in old) k a)));
}

stored_by : {slots : List (Option Station)} {picked k : ℕ} {old now : Bytes} (new : Bytes) (o : Option Station)
    → slot slots k ≡ o → has picked k ≡ true → ((s : Station) → o ≡ Some s → HasStored (step_in s) now new)
    → (o ≡ None → new ≡ now) → ((s : Station) → o ≡ Some s → IsInside old (step_in s))
    → HaveStored slots picked k old now → HaveStored slots picked (k + 1) old new
stored_by {slots} {picked} {k} {old} {now} new None e pick some none inside before =
    let same : new ≡ now = none refl in
    record {
      base = ap (λ (m : Bytes). m.base) same ∙ before.base;
      size = ap (λ (m : Bytes). length m.bytes) same ∙ before.size;
      bytes = λ a l. ap (λ (m : Bytes). byte_in m a) same
          ∙ (before.bytes a l ∙ sym (written_more slots picked (byte_in old) k a ∙ rw e refl));
    }
stored_by {slots} {picked} {k} {old} {now} new (Some s) e pick some none inside before =
    let one : HasStored (step_in s) now new = some s refl in
    record {
      base = one.base ∙ before.base;
      size = one.size ∙ before.size;
      bytes = λ a l. one.bytes (inside_as (bytes_of (step_in s)) now.base old.base (length now.bytes) (length old.bytes)
          before.base before.size (inside s refl)) a (omega arith) ∙ (ap
          (λ (n : ℕ). if overwrites (step_in s) a then stored_byte (step_in s) a else n) (before.bytes a l) ∙ sym
          (written_more slots picked (byte_in old) k a ∙ rw (e, pick) refl));
    }

pub more_stored : {slots : List (Option Station)} {picked k : ℕ} {old now : Bytes} (new : Bytes) → k < 96
    → has picked k ≡ true → ((s : Station) → slot slots k ≡ Some s → HasStored (step_in s) now new)
    → (slot slots k ≡ None → new ≡ now) → AllInside old picked slots → HaveStored slots picked k old now
    → HaveStored slots picked (k + 1) old new
more_stored {slots} {k} new l pick some none inside before =
    stored_by new (slot slots k) refl pick some none (inside k l pick) before

-- The loop over the picked places, the least first.

pub record IsStored (slots : List (Option Station)) (picked rest : ℕ) (old now : Bytes) : Type 0 where
  pub k : ℕ
  pub from : AreFrom picked rest k
  pub high : k ≤ 96
  pub stored : HaveStored slots picked k old now

pub first_stored : (slots : List (Option Station)) (picked : ℕ) (m : Bytes) → IsStored slots picked picked m m
first_stored slots picked m = record {
  k = 0;
  from = all_left picked;
  high = omega arith;
  stored = none_stored slots picked m;
}

pub member_stored : {slots : List (Option Station)} {picked rest left x : ℕ} {old now : Bytes} (new : Bytes)
    → AreLow picked → AllInside old picked slots → IsTaken rest x left
    → ((s : Station) → slot slots x ≡ Some s → HasStored (step_in s) now new)
    → (slot slots x ≡ None → new ≡ now) → IsStored slots picked rest old now
    → IsStored slots picked left old new
member_stored {slots} {picked} {x = x} {old} {now} new low inside out some none so =
    let turn = turn_at so.from out in
    let below : x < 96 = low x out.low turn.member in
    record {
      k = x + 1;
      from = turn.next;
      high = omega arith;
      stored = more_stored new below turn.member some none inside (skip_to (λ j. HaveStored slots picked j old now)
          picked so.k x turn.from turn.none (λ j e b. skip_stored e b) so.stored);
    }

pub all_stored : {slots : List (Option Station)} {picked rest : ℕ} {old now : Bytes} → AreLow picked → rest ≡ 0
    → IsStored slots picked rest old now → HaveStored slots picked 96 old now
all_stored {slots} {picked} {rest} {old} {now} low empty so =
    skip_to (λ j. HaveStored slots picked j old now) picked so.k 96 so.high
    (λ j from to. none_after picked rest so.k so.from empty j from (omega arith)) (λ j e b. skip_stored e b) so.stored

-- What is no store leaves memory as it is.

stores_not : (o : Option Station) (picked : Bool) (a before : ℕ) → holds_store o ≡ false
    → stored_at picked o a before ≡ before
stores_not None picked a before none = refl
stores_not (Some s) picked a before none =
    let not_here : overwrites (step_in s) a ≡ false = ap (λ b. b && covers (step_in s) a) none in
    rw (not_here, and_right picked false refl) refl

same_stored : (o : Option Station) (picked kept : Bool) (a before : ℕ)
    → (kept ≡ false → stored_at picked o a before ≡ before)
    → stored_at (picked && kept) o a before ≡ stored_at picked o a before
same_stored o picked kept a before h5 = grind (arith, nat_tests)

-- so the stores among the picked places write what all of them do
same_written : (slots : List (Option Station)) (picked found stores : ℕ) (byte : ℕ → ℕ) (k a : ℕ) → k ≤ 128
    → IsSetOf holds_store slots stores → ((x : ℕ) → has found x ≡ (has picked x && has stores x))
    → written_by slots found byte k a ≡ written_by slots picked byte k a
same_written slots picked found stores byte zero a l are both = refl
same_written slots picked found stores byte (suc k) a l are both =
    ap (stored_at (has found k) (slot slots k) a)
    (same_written slots picked found stores byte k a (omega arith) are both) ∙ rw (both k) (same_stored
    (slot slots k) (has picked k) (has stores k) a (written_by slots picked byte k a) (λ none. stores_not
    (slot slots k) (has picked k) a (written_by slots picked byte k a)
    (sym (are k (omega arith)) ∙ none)))

pub stores_stored : {slots : List (Option Station)} (picked : ℕ) {found : ℕ} (stores : ℕ) {old now : Bytes}
    → IsSetOf holds_store slots stores → ((x : ℕ) → has found x ≡ (has picked x && has stores x))
    → HaveStored slots found 96 old now → HaveStored slots picked 96 old now
stores_stored {slots} picked {found} stores {old} are both stored = record {
  base = stored.base;
  size = stored.size;
  bytes = λ a l. stored.bytes a l ∙ same_written slots picked found stores (byte_in old) 96 a (omega arith) are both;
}

-- they are among the picked places
pub store_picked : (picked found stores : ℕ) → ((x : ℕ) → has found x ≡ (has picked x && has stores x)) → (x : ℕ)
    → has found x ≡ true → has picked x ≡ true
store_picked picked found stores both x e = (and_parts (has picked x) (has stores x) (sym (both x) ∙ e)).0
