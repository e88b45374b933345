-- Which stations wait for a place's result, as stations come, change and go; and each station holds an instruction of
-- its pool.
use Rattle.std.proofs.Common.{ℕ, ◌/◌, ◌<◌, ◌≤◌, ◌≡◌, ◌∙◌, Bool, true, false, refl, ap, sym, inl, inr, arith, List}
use Rattle.std.proofs.Common.{Option, Some, None, length, slice_index, slice_index_or, slice_set, replicate}
use Rattle.std.specs.Prelude.{IfSome, ◌==◌, ◌||◌, ◌⊎◌, is_some}
use Rattle.std.proofs.lemmas.Bool.{both_ways, cases_Bool, eqb-true, eqb-false}
use Rattle.std.proofs.lemmas.List.{get_or-set_same, get_or-set_other, length-set}
use Rattle.tomex_rvdec.specs.Operands.{pool_of, unit_at, unit_of, unit_of_pool}
use Rattle.tomex_bus.specs.Sets.{has, IsWith}
use Rattle.tomex_timing.specs.declared.tables.Field.{Field}
use Rattle.tomex_timing.specs.declared.tables.Field.TheVariants.{Value, Waits, Unread}
use Rattle.tomex_timing.specs.declared.tables.Tag.{Tag}
use Rattle.tomex_tags.specs.declared.station.Station.{Station}
use Rattle.tomex_tags.specs.Contents.{hears, with_address}
use Rattle.tomex_tags.specs.Listeners.{AreListening, IsListening, awaits}
use Rattle.tomex_tags.specs.Operands.{comes_from, field_after, only}
use Rattle.tomex_tags.specs.Places.{place_of_tag, pool_at}
use Rattle.tomex_tags.specs.Pools.{AreOwn, IsOwn}

-- the sets after this station, or none, is put into a place: it is a member of the sets of the places that it waits
-- for
pub record Listens (x : ℕ) (o : Option Station) (old new : List ℕ) : Type 0 where
  pub count : length new ≡ length old
  pub kept : (y z : ℕ) → y < 96 → has (slice_index old y) z ≡ true → has (slice_index new y) z ≡ true
  pub added : (y : ℕ) → y < 96 → awaits y o ≡ true → has (slice_index new y) x ≡ true

pub listening_set : (slots : List (Option Station)) (x : ℕ) (o : Option Station) (old new : List ℕ) → x < length slots
    → AreListening slots old → Listens x o old new → AreListening (slice_set slots x o) new
listening_set slots x o old new l so listens = record {
  count = listens.count ∙ so.count;
  each = λ z y m k e. elim (cases_Bool (x == z)) [
    | inl f ↦
        let same : x ≡ z = eqb-true x z f in
        rw (← same) (listens.added y k (ap (awaits y) (sym (rw (← same) (get_or-set_same slots x o None l))) ∙ e))
    | inr f ↦ listens.kept y z k (so.each z y m k
        (ap (awaits y) (sym (get_or-set_other slots x z o None (λ w. eqb-false x z f (sym w)))) ∙ e))
  ];
}

pub own_set : (slots : List (Option Station)) (x : ℕ) (o : Option Station) → x < length slots → AreOwn slots → IsOwn x o
    → AreOwn (slice_set slots x o)
own_set slots x o l so own y m = elim (cases_Bool (x == y)) [
  | inl f ↦ let same : x ≡ y = eqb-true x y f in rw (← same, get_or-set_same slots x o None l) own
  | inr f ↦ rw (get_or-set_other slots x y o None (λ w. eqb-false x y f (sym w))) (so y m)
]

pub own_here : (slots : List (Option Station)) (x : ℕ) (s : Station) → x < 96 → AreOwn slots
    → slice_index_or slots x None ≡ Some s → IsOwn x (Some s)
own_here slots x s l own at = rw at at (own x l)

pub unit_here : (slots : List (Option Station)) (x : ℕ) (o : Option Station) → x < 96 → AreOwn slots
    → o ≡ slice_index_or slots x None → IfSome o (λ s. unit_of s.instr.op ≡ Some (unit_of_pool (pool_at (x / 16))))
unit_here slots x None l so at = tt
unit_here slots x (Some s) l so at = ap unit_at (own_here slots x s l so (sym at))

pub pool_here : (slots : List (Option Station)) (x : ℕ) (o : Option Station) → x < 96 → AreOwn slots
    → o ≡ slice_index_or slots x None → IfSome o (λ s. pool_of s.instr.op ≡ Some (pool_at (x / 16)))
pool_here slots x None l so at = tt
pool_here slots x (Some s) l so at = own_here slots x s l so (sym at)

-- a free place waits for nothing
pub none_listens : (x : ℕ) (sets : List ℕ) → Listens x None sets sets
none_listens x sets = record { count = refl; kept = λ y z l e. e; added = λ y l e. absurd (cc) }

or_cases : (a b : Bool) → (a || b) ≡ true → (a ≡ true) ⊎ (b ≡ true)
or_cases true b e = inl refl
or_cases false b e = inr e

-- a station that comes is entered at the places of both operands
pub station_listens : (x : ℕ) (s : Station) (old now new : List ℕ) → length old ≡ 96 → IsListening x s.j old now
    → IsListening x s.k now new → Listens x (Some s) old new
station_listens x s old now new count first second = record {
  count = second.count ∙ first.count;
  kept = λ y z l e. second.kept y z l (first.kept y z l e);
  added = λ y l e. elim (or_cases (comes_from y s.j) (comes_from y s.k) e) [
    | inl f ↦ second.kept y x l (first.added y l f)
    | inr f ↦ second.added y l f
  ];
}

-- a station that waits for no more than before is already entered
pub same_listens : (slots : List (Option Station)) (x : ℕ) (s t : Station) (sets : List ℕ) → x < 96
    → AreListening slots sets → slice_index_or slots x None ≡ Some s
    → ((y : ℕ) → awaits y (Some t) ≡ true → awaits y (Some s) ≡ true) → Listens x (Some t) sets sets
same_listens slots x s t sets l so here less =
    record { count = refl; kept = λ y z k e. e; added = λ y k e. so.each x y l k (ap (awaits y) here ∙ less y e) }

-- an operand after a result comes from where it came before, or is there
heard_less : (sent : ℕ → Option ℕ) (y : ℕ) (f : Field) → comes_from y (field_after sent f) ≡ true
    → comes_from y f ≡ true
heard_less sent y (Value v) e = e
heard_less sent y Unread e = e
heard_less sent y (Waits tag) e = of (sent (place_of_tag tag)) refl
  where
    of : (o : Option ℕ) → sent (place_of_tag tag) ≡ o → comes_from y (Waits tag) ≡ true
    of None f = rw f at e
    of (Some v) f = let g : false ≡ true = rw f at e in absurd (cc)

or_less : (a b c d : Bool) → (a ≡ true → c ≡ true) → (b ≡ true → d ≡ true) → (a || b) ≡ true → (c || d) ≡ true
or_less true b c d f g e = rw (f refl) refl
or_less false b true d f g e = refl
or_less false b false d f g e = g e

pub hears_less : (sent : ℕ → Option ℕ) (s : Station) (y : ℕ) → awaits y (Some (hears sent s)) ≡ true
    → awaits y (Some s) ≡ true
hears_less sent s y e = or_less (comes_from y (field_after sent s.j)) (comes_from y (field_after sent s.k))
    (comes_from y s.j) (comes_from y s.k) (heard_less sent y s.j) (heard_less sent y s.k) e

pub address_same : (s : Station) (y : ℕ) → awaits y (Some (with_address s)) ≡ true → awaits y (Some s) ≡ true
address_same s y e = of s.j refl
  where
    of : (f : Field) → s.j ≡ f → awaits y (Some s) ≡ true
    of (Value v) g = rw g (rw g at e)
    of (Waits tag) g = rw g (rw g at e)
    of Unread g = rw g (rw g at e)

pub address_own : (x : ℕ) (s : Station) → IsOwn x (Some s) → IsOwn x (Some (with_address s))
address_own x s own = of s.j refl
  where
    of : (f : Field) → s.j ≡ f → IsOwn x (Some (with_address s))
    of (Value v) g = rw g own
    of (Waits tag) g = rw g own
    of Unread g = rw g own

-- after a place has sent, nothing comes from it
heard_none : (y value : ℕ) (f : Field) → comes_from y (field_after (only y (Some value)) f) ≡ false
heard_none y value (Value v) = refl
heard_none y value Unread = refl
heard_none y value (Waits tag) = elim (cases_Bool (y == place_of_tag tag)) [
  | inl e ↦ rw e refl
  | inr e ↦ rw e (apart (place_of_tag tag) e)
]
  where
    apart : (a : ℕ) → (y == a) ≡ false → (a == y) ≡ false
    apart a e = elim (cases_Bool (a == y)) [
      | inr f ↦ f
      | inl f ↦ absurd (eqb-false y a e (sym (eqb-true a y f)))
    ]

pub hears_none : (y value : ℕ) (s : Station) → awaits y (Some (hears (only y (Some value)) s)) ≡ false
hears_none y value s = rw (heard_none y value s.j, heard_none y value s.k) refl

-- no more is to come from a place
pub forgotten : (slots : List (Option Station)) (sets : List ℕ) (from : ℕ) → AreListening slots sets → from < 96
    → ((x : ℕ) → x < 96 → awaits from (slice_index_or slots x None) ≡ false)
    → AreListening slots (slice_set sets from 0)
forgotten slots sets from so l none = record {
  count = length-set sets from 0 ∙ so.count;
  each = λ x y m k e. elim (cases_Bool (from == y)) [
    | inl f ↦ let same : from ≡ y = eqb-true from y f in
        absurd (both_ways (awaits y (slice_index_or slots x None)) (rw (← same) (none x m)) e)
    | inr f ↦ ap (λ n. has n x) (get_or-set_other sets from y 0 0 (λ w. eqb-false from y f (sym w))) ∙ so.each x y m k e
  ];
}

-- a station that waits for a place is busy
pub awaits_some : (y : ℕ) (o : Option Station) → awaits y o ≡ true → is_some o ≡ true
awaits_some y None e = absurd (cc)
awaits_some y (Some s) e = refl

set_here : (sets : List ℕ) (i y set : ℕ) → y < length sets → i ≡ y → slice_index (slice_set sets i set) y ≡ set
set_here sets i y set l e = rw e (get_or-set_same sets y set 0 l)

member_kept : (old new x z : ℕ) → IsWith old x new → has old z ≡ true → has new z ≡ true
member_kept old new x z with e = elim (cases_Bool (x == z)) [
  | inl g ↦ ap (has new) (sym (eqb-true x z g)) ∙ with.same
  | inr g ↦ with.others z (λ w. eqb-false x z g (sym w)) ∙ e
]

-- an operand is entered at its place
pub told : (sets : List ℕ) (x from : ℕ) (tag : Tag) (set : ℕ) → length sets ≡ 96 → from ≡ place_of_tag tag
    → IsWith (slice_index sets from) x set → IsListening x (Waits tag) sets (slice_set sets from set)
told sets x from tag set count at with = record {
  count = length-set sets from set;
  kept = λ y z l e. elim (cases_Bool (from == y)) [
    | inr f ↦ ap (λ n. has n z) (get_or-set_other sets from y set 0 (λ w. eqb-false from y f (sym w))) ∙ e
    | inl f ↦
        let same : from ≡ y = eqb-true from y f in
        ap (λ n. has n z) (set_here sets from y set (omega (arith, count)) same)
        ∙ member_kept (slice_index sets from) set x z with (ap (λ i. has (slice_index sets i) z) same ∙ e)
  ];
  added = λ y l e. ap (λ n. has n x)
      (set_here sets from y set (omega (arith, count)) (at ∙ eqb-true (place_of_tag tag) y e)) ∙ with.same;
}

-- a place that sends nothing has no set
pub past : (sets : List ℕ) (x from : ℕ) (tag : Tag) → from ≡ place_of_tag tag → 96 ≤ from
    → IsListening x (Waits tag) sets sets
past sets x from tag at high = record {
  count = refl;
  kept = λ y z l e. e;
  added = λ y l e. let same : from ≡ y = at ∙ eqb-true (place_of_tag tag) y e in absurd (omega arith);
}

-- an operand that comes from no place is entered at none
pub untold : (sets : List ℕ) (x : ℕ) (f : Field) → ((y : ℕ) → y < 96 → comes_from y f ≡ false)
    → IsListening x f sets sets
untold sets x f none = record {
  count = refl;
  kept = λ y z l e. e;
  added = λ y l e. absurd (both_ways (comes_from y f) (none y l) e);
}

pub none_awaits : (slots : List (Option Station)) → ((x : ℕ) → x < 128 → slice_index_or slots x None ≡ None)
    → AreListening slots (replicate 96 0)
none_awaits slots none = record {
  count = refl;
  each =
      λ x y l k e. absurd (both_ways (awaits y (slice_index_or slots x None)) (ap (awaits y) (none x (omega arith))) e);
}
