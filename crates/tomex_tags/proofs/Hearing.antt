-- A broadcast reaches one busy station after another.
use Rattle.std.proofs.Common.{ℕ, ◌<◌, ◌≤◌, ◌≡◌, ◌∙◌, true, false, arith, refl, ap, sym, inl, inr, Option, Some}
use Rattle.std.proofs.Common.{None, length, slice_index_or, slice_set}
use Rattle.std.specs.Prelude.{◌==◌, if◌then◌else◌, option_map}
use Rattle.std.proofs.lemmas.Bool.{both_ways, cases_Bool, eqb-true, eqb-false, or_parts}
use Rattle.std.proofs.lemmas.List.{get_or-set_same, get_or-set_other, length-set}
use Rattle.tomex_bus.specs.Sets.{has, IsWithout}
use Rattle.tomex_tags.specs.declared.station.Station.{Station}
use Rattle.tomex_timing.specs.declared.tables.Field.{Field}
use Rattle.tomex_timing.specs.declared.tables.Field.TheVariants.{Value, Waits, Unread}
use Rattle.tomex_bus.proofs.Members.{none_rest}
use Rattle.tomex_tags.specs.Contents.{hears}
use Rattle.tomex_tags.specs.Listeners.{awaits}
use Rattle.tomex_tags.specs.Operands.{comes_from, field_after, only}
use Rattle.tomex_tags.specs.Places.{place_of_tag}
use Rattle.tomex_tags.proofs.Listening.{hears_none}
use Rattle.tomex_tags.specs.Pools.{AreBusy, Pools}

-- all stations except a rest have received the values that are sent
pub record AreHearing (sent : ℕ → Option ℕ) (rest : ℕ) (old new : Pools) : Type 0 where
  pub places : length new.slots ≡ 96
  pub slots : (x : ℕ) → x < 96 → slice_index_or new.slots x None
      ≡ (if has rest x then slice_index_or old.slots x None else option_map (hears sent)
      (slice_index_or old.slots x None))
  pub busy : new.busy ≡ old.busy
  pub issue_numbers : new.issue_numbers ≡ old.issue_numbers

-- an operand that isn't to come from a place is unchanged by what it sends
there : (from value : ℕ) (f : Field) → comes_from from f ≡ false → field_after (only from (Some value)) f ≡ f
there from value (Value v) e = refl
there from value Unread e = refl
there from value (Waits tag) e = elim (cases_Bool (from == place_of_tag tag)) [
  | inr g ↦ rw g refl
  | inl g ↦ absurd (eqb-false (place_of_tag tag) from e (sym (eqb-true from (place_of_tag tag) g)))
]

deaf : (from value : ℕ) (o : Option Station) → awaits from o ≡ false → o ≡ option_map (hears (only from (Some value))) o
deaf from value None e = refl
deaf from value (Some s) e =
    let two = or_parts (comes_from from s.j) (comes_from from s.k) e in
    ap (λ (z : Station). Some z) (sym (rw (there from value s.j two.0, there from value s.k two.1) refl))

pub first_heard : (from value rest : ℕ) (old : Pools) → AreBusy old.slots old.busy old.issue_numbers
    → ((x : ℕ) → x < 96 → awaits from (slice_index_or old.slots x None) ≡ true → has rest x ≡ true)
    → AreHearing (only from (Some value)) rest old old
first_heard from value rest old filled listen = record {
  places = filled.places;
  slots = λ x l. elim (cases_Bool (has rest x)) [
    | inl e ↦ rw e refl
    | inr e ↦ rw e (deaf from value (slice_index_or old.slots x None)
        (elim (cases_Bool (awaits from (slice_index_or old.slots x None))) [
          | inr f ↦ f
          | inl f ↦ absurd (both_ways (has rest x) e (listen x l f))
        ]))
  ];
  busy = refl;
  issue_numbers = refl;
}

-- once all have received it, nothing is to come from the place
pub none_listening : (from value rest : ℕ) (old new : Pools) → AreHearing (only from (Some value)) rest old new
    → rest ≡ 0 → (x : ℕ) → x < 96 → awaits from (slice_index_or new.slots x None) ≡ false
none_listening from value rest old new so empty x l = ap (awaits from) (so.slots x l ∙ rw (none_rest rest x empty) refl)
    ∙ silent (slice_index_or old.slots x None)
  where
    silent : (o : Option Station) → awaits from (option_map (hears (only from (Some value))) o) ≡ false
    silent None = refl
    silent (Some s) = hears_none from value s

-- the station in one more place has received it
pub heard_more : (sent : ℕ → Option ℕ) (rest left x : ℕ) (old now new : Pools) → AreHearing sent rest old now → x < 96
    → has rest x ≡ true → IsWithout rest x left
    → new.slots ≡ slice_set now.slots x (option_map (hears sent) (slice_index_or now.slots x None))
    → new.busy ≡ now.busy → new.issue_numbers ≡ now.issue_numbers → AreHearing sent left old new
heard_more sent rest left x old now new so small member without slots busy issue_numbers =
    let count : length now.slots ≡ 96 = so.places in
    record {
      places = ap length slots ∙ (length-set now.slots x (option_map (hears sent) (slice_index_or now.slots x None))
          ∙ so.places);
      slots = λ y l. elim (cases_Bool (x == y)) [
        | inl k ↦
            let same : x ≡ y = eqb-true x y k in
            let before : slice_index_or now.slots x None ≡ slice_index_or old.slots x None =
            so.slots x small ∙ rw member refl in
            rw (← same, slots, without.same)
            (get_or-set_same now.slots x (option_map (hears sent) (slice_index_or now.slots x None)) None
            (omega arith) ∙ ap (option_map (hears sent)) before)
        | inr k ↦
            let other : has left y ≡ has rest y = without.others y (omega arith) (λ z. eqb-false x y k (sym z)) in
            rw (slots, other) (get_or-set_other now.slots x y
            (option_map (hears sent) (slice_index_or now.slots x None)) None (λ z. eqb-false x y k (sym z))
            ∙ so.slots y l)
      ];
      busy = busy ∙ so.busy;
      issue_numbers = issue_numbers ∙ so.issue_numbers;
    }

-- there is nothing past the last place
pub heard_past : (sent : ℕ → Option ℕ) (rest left x : ℕ) (old now : Pools) → AreHearing sent rest old now → 96 ≤ x
    → IsWithout rest x left → AreHearing sent left old now
heard_past sent rest left x old now so high without = record {
  places = so.places;
  slots = λ y l. let other : has left y ≡ has rest y = without.others y (omega arith) (λ z. absurd (omega arith)) in
      rw other (so.slots y l);
  busy = so.busy;
  issue_numbers = so.issue_numbers;
}
