-- The sets of what stations wait for, as stations come, change and go.
use Rattle.std.proofs.Common.{ℕ, ◌<◌, ◌≡◌, ◌∙◌, Bool, true, false, refl, ap, sym, inl, inr, List, Option, Some, None}
use Rattle.std.proofs.Common.{length, slice_index_or, slice_set}
use Rattle.std.specs.Prelude.{◌==◌, ◌&&◌, ◌||◌, not, is_none, is_some, option_map}
use Rattle.std.proofs.lemmas.Bool.{and_parts, both_ways, cases_Bool, eqb-true, eqb-false}
use Rattle.std.proofs.lemmas.List.{get_or-set_same, get_or-set_other}
use Rattle.tomex_bus.specs.Sets.{has, IsWith, IsWithout}
use Rattle.tomex_bus.proofs.Bits.{none_in}
use Rattle.tomex_tags.specs.declared.wait_sets.WaitSets.{WaitSets}
use Rattle.tomex_tags.specs.declared.station.Station.{Station}
use Rattle.tomex_timing.specs.declared.tables.Field.{Field}
use Rattle.tomex_timing.specs.declared.tables.Field.TheVariants.{Value, Waits, Unread}
use Rattle.tomex_tags.specs.Contents.{hears, is_memory_op, is_ready, lacks_address, with_start, with_address}
use Rattle.tomex_tags.specs.Operands.{field_after, is_there}
use Rattle.tomex_tags.specs.Pools.{AreBusy}
use Rattle.tomex_tags.specs.WaitSets.{AreWaitSets, HasEntered, IsWithMember, KeepsOthers, IsSetOf, waits, writes}

pub entered_with : (set new x : ℕ) (member : Bool) → member ≡ true → IsWith set x new → IsWithMember x member set new
entered_with set new x member is with y l = elim (cases_Bool (x == y)) [
  | inl e ↦ let same : x ≡ y = eqb-true x y e in rw (e, ← same) (with.same ∙ sym is)
  | inr e ↦ rw e (with.others y (λ z. eqb-false x y e (sym z)))
]

pub entered_without : (set new x : ℕ) (member : Bool) → member ≡ false → IsWithout set x new
    → IsWithMember x member set new
entered_without set new x member is without y l = elim (cases_Bool (x == y)) [
  | inl e ↦ let same : x ≡ y = eqb-true x y e in rw (e, ← same) (without.same ∙ sym is)
  | inr e ↦ rw e (without.others y l (λ z. eqb-false x y e (sym z)))
]

set_entered : (test : Option Station → Bool) (slots : List (Option Station)) (old new x : ℕ) (v : Option Station)
    → x < length slots → IsSetOf test slots old → IsWithMember x (test v) old new
    → IsSetOf test (slice_set slots x v) new
set_entered test slots old new x v l of entered y m = entered y m ∙ elim (cases_Bool (x == y)) [
  | inl e ↦ let same : x ≡ y = eqb-true x y e in rw (e, ← same) (sym (ap test (get_or-set_same slots x v None l)))
  | inr e ↦ rw e (of y m ∙ sym (ap test (get_or-set_other slots x y v None (λ z. eqb-false x y e (sym z)))))
]

pub all_entered : (slots : List (Option Station)) (x : ℕ) (v : Option Station) (old new : WaitSets) → x < length slots
    → AreWaitSets slots old → HasEntered x v old new → AreWaitSets (slice_set slots x v) new
all_entered slots x v old new l wait_sets entered = record {
  lacking = set_entered lacks_address slots old.lacking new.lacking x v l wait_sets.lacking entered.lacking;
  waiting = set_entered waits slots old.waiting new.waiting x v l wait_sets.waiting entered.waiting;
  writing = set_entered writes slots old.writing new.writing x v l wait_sets.writing entered.writing;
}

-- a station that is unchanged for a test stays in the same set
kept : (test : Option Station → Bool) (slots : List (Option Station)) (old new x : ℕ) (v w : Option Station) → x < 128
    → IsSetOf test slots old → slice_index_or slots x None ≡ w → test v ≡ test w → new ≡ old
    → IsWithMember x (test v) old new
kept test slots old new x v w l of at same e y m = elim (cases_Bool (x == y)) [
  | inl k ↦ let here : x ≡ y = eqb-true x y k in rw (k, e, ← here) (of x l ∙ (ap test at ∙ sym same))
  | inr k ↦ rw (k, e) refl
]

pub start_entered : (slots : List (Option Station)) (x finish value : ℕ) (s : Station) (old new : WaitSets) → x < 128
    → AreWaitSets slots old → slice_index_or slots x None ≡ Some s → IsWithMember x false old.waiting new.waiting
    → KeepsOthers old new → HasEntered x (Some (with_start finish value s)) old new
start_entered slots x finish value s old new l wait_sets at entered same = record {
  lacking = kept lacks_address slots old.lacking new.lacking x (Some (with_start finish value s)) (Some s) l
      wait_sets.lacking at refl same.lacking;
  waiting = entered;
  writing = kept writes slots old.writing new.writing x (Some (with_start finish value s)) (Some s) l
      wait_sets.writing at refl same.writing;
}

address_writes : (s : Station) → writes (Some (with_address s)) ≡ writes (Some s)
address_writes s = of_field s.j refl
  where
    of_field : (f : Field) → s.j ≡ f → writes (Some (with_address s)) ≡ writes (Some s)
    of_field (Value v) e = rw e refl
    of_field (Waits tag) e = rw e refl
    of_field Unread e = rw e refl

pub address_entered : (slots : List (Option Station)) (x : ℕ) (s h : Station) (old new : WaitSets) → x < 128
    → AreWaitSets slots old → slice_index_or slots x None ≡ Some s → h ≡ with_address s
    → IsWithMember x (lacks_address (Some h)) old.lacking new.lacking
    → IsWithMember x (waits (Some h)) old.waiting new.waiting → new.writing ≡ old.writing
    → HasEntered x (Some h) old new
address_entered slots x s h old new l wait_sets at made lacks waited same = record {
  lacking = lacks;
  waiting = waited;
  writing = kept writes slots old.writing new.writing x (Some h) (Some s) l wait_sets.writing at
      (rw made (address_writes s)) same;
}

pub hear_entered : (slots : List (Option Station)) (x : ℕ) (sent : ℕ → Option ℕ) (o : Option Station)
    (old new : WaitSets) → x < 128 → AreWaitSets slots old → slice_index_or slots x None ≡ o
    → IsWithMember x (waits (option_map (hears sent) o)) old.waiting new.waiting → KeepsOthers old new
    → HasEntered x (option_map (hears sent) o) old new
hear_entered slots x sent o old new l wait_sets at entered same = record {
  lacking = kept lacks_address slots old.lacking new.lacking x (option_map (hears sent) o) o l wait_sets.lacking at
      (lacks_still o) same.lacking;
  waiting = entered;
  writing = kept writes slots old.writing new.writing x (option_map (hears sent) o) o l wait_sets.writing at
      (writes_still o) same.writing;
}
  where
    lacks_still : (p : Option Station) → lacks_address (option_map (hears sent) p) ≡ lacks_address p
    lacks_still None = refl
    lacks_still (Some s) = refl

    writes_still : (p : Option Station) → writes (option_map (hears sent) p) ≡ writes p
    writes_still None = refl
    writes_still (Some s) = refl

-- an operand that is there receives nothing
still_there : (sent : ℕ → Option ℕ) (f : Field) → is_there f ≡ true → is_there (field_after sent f) ≡ true
still_there sent (Value v) e = refl
still_there sent Unread e = refl
still_there sent (Waits tag) e = absurd (cc)

pub still_waits : (sent : ℕ → Option ℕ) (o : Option Station) → waits o ≡ true → waits (option_map (hears sent) o) ≡ true
still_waits sent None e = e
still_waits sent (Some s) e =
    let two = and_parts (is_none s.finish && is_ready s) (not (is_memory_op s.instr.op) || is_some s.address) e in
    let none = and_parts (is_none s.finish) (is_ready s) two.0 in
    let operands = and_parts (is_there s.j) (is_there s.k) none.1 in
    rw (none.0, still_there sent s.j operands.0, still_there sent s.k operands.1, two.1) refl

-- without stations the sets are empty
pub none_stand : (slots : List (Option Station)) → ((x : ℕ) → x < 128 → slice_index_or slots x None ≡ None)
    → AreWaitSets slots (record { lacking = 0; waiting = 0; writing = 0 })
none_stand slots none = record {
  lacking = λ x l. none_in x ∙ sym (ap lacks_address (none x l));
  waiting = λ x l. none_in x ∙ sym (ap waits (none x l));
  writing = λ x l. none_in x ∙ sym (ap writes (none x l));
}

-- a place that is in no set stays in none
pub joined_as : (set x : ℕ) → has set x ≡ false → IsWithMember x false set set
joined_as set x out y l = elim (cases_Bool (x == y)) [
  | inl e ↦ let same : x ≡ y = eqb-true x y e in rw (e, ← same) out
  | inr e ↦ rw e refl
]

-- a place of a set is busy
pub is_busy_there : (test : Option Station → Bool) (slots : List (Option Station)) (busy : ℕ) (issue_numbers : List ℕ)
    (set : ℕ) → test None ≡ false → AreBusy slots busy issue_numbers → IsSetOf test slots set → (x : ℕ) → x < 128
    → has set x ≡ true → has busy x ≡ true
is_busy_there test slots busy issue_numbers set none filled of x l member =
    filled.each x l ∙ some_of (slice_index_or slots x None) (sym (of x l) ∙ member)
  where
    some_of : (o : Option Station) → test o ≡ true → is_some o ≡ true
    some_of None e = absurd (both_ways (test None) none e)
    some_of (Some s) e = refl

-- a set of places that pass a test is one of busy places
pub of_busy : (test : Option Station → Bool) (slots : List (Option Station)) (busy : ℕ) (issue_numbers : List ℕ)
    (set : ℕ) → test None ≡ false → AreBusy slots busy issue_numbers → IsSetOf test slots set → (x : ℕ) → x < 128
    → has set x ≡ (has busy x && test (slice_index_or slots x None))
of_busy test slots busy issue_numbers set none filled of x l =
    of x l ∙ rw (filled.each x l) (same (slice_index_or slots x None))
  where
    same : (o : Option Station) → test o ≡ (is_some o && test o)
    same None = none
    same (Some s) = refl
