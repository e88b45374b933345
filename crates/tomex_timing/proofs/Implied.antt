-- What needs say about another configuration.
use Rattle.std.proofs.Common.{ℕ, zero, suc, ◌≤◌, ◌≡◌, ◌⊎◌, Bool, true, refl, sym, inl, inr, List, [], ◌∷◌, Some}
use Rattle.std.specs.Prelude.{nat_le, ◌==◌, ◌&&◌, slice_get}
use Rattle.std.specs.List.{list_all}
use Rattle.std.proofs.lemmas.Bool.{and_parts, eqb-true, leb-true, or_cases}
use Rattle.tomex_rvdec.specs.declared.pool.PoolId.TheVariants as pools
use Rattle.tomex_rvdec.specs.declared.pool.UnitId.{UnitId}
use Rattle.tomex_rvdec.specs.declared.pool.UnitId.TheVariants as units
use Rattle.tomex_config.specs.Configuration.{Configuration, option_of}
use Rattle.tomex_timing.specs.declared.needs.Needs.{Needs}
use Rattle.tomex_config.specs.declared.part.Part.{Part}
use Rattle.tomex_config.specs.declared.part.Part.TheVariants.{Stations, Units, Buses, Width}
use Rattle.tomex_timing.specs.declared.times.Done.{Done}
use Rattle.tomex_timing.specs.Laws.{NeedsTell}
use Rattle.tomex_timing.specs.Needs.{AreNeeds, allows, allows_latency, peak, need_of}
use Rattle.tomex_config.specs.Parts.{all_parts, count_of}
use Rattle.tomex_config.specs.Cost.{all_units}
use Rattle.tomex_timing.specs.Needs.{stalls}

part_allowed : (config other : Configuration) (h : List Done) (needs : Needs) (part : Part) → AreNeeds config h needs
    → allows needs config other part ≡ true → (count_of other part ≡ count_of config part)
    ⊎ ((stalls config part h ≡ 0) × (peak part h ≤ count_of other part))
part_allowed config other h needs part are allowed_so =
    elim (or_cases (count_of config part == count_of other part)
    ((need_of needs part).stalls == 0 && nat_le (need_of needs part).peak (count_of other part)) allowed_so) [
      | inl e ↦ inl (sym (eqb-true (count_of config part) (count_of other part) e))
      | inr e ↦
          let both = and_parts ((need_of needs part).stalls == 0)
          (nat_le (need_of needs part).peak (count_of other part)) e
          in
          let none : stalls config part h ≡ 0 =
          rw (are.parts part) at (eqb-true (need_of needs part).stalls 0 both.0) in
          let top : peak part h ≤ count_of other part =
          rw (are.parts part) at (leb-true (need_of needs part).peak (count_of other part) both.1) in
          inr (none, top)
    ]

latency_allowed : (config other : Configuration) (h : List Done) (needs : Needs) (unit : UnitId)
    → AreNeeds config h needs
    → allows_latency needs config other unit ≡ true → ((option_of other unit).latency ≡ (option_of config unit).latency)
    ⊎ (peak (Units unit) h ≡ 0)
latency_allowed config other h needs unit are allowed_so =
    elim (or_cases ((option_of config unit).latency == (option_of other unit).latency)
    ((need_of needs (Units unit)).peak == 0) allowed_so) [
      | inl e ↦ inl (sym (eqb-true (option_of config unit).latency (option_of other unit).latency e))
      | inr e ↦ inr (rw (are.parts (Units unit)) at (eqb-true (need_of needs (Units unit)).peak 0 e))
    ]

-- a test that all of a list pass is passed by the one at each place
at_place : {X : Type 0} (p : X → Bool) (xs : List X) (n : ℕ) (x : X) → list_all p xs ≡ true → slice_get xs n ≡ Some x
    → p x ≡ true
at_place p [] n x all here = absurd (cc)
at_place p (y ∷ xs) zero x all here = let e : y ≡ x = cc in rw (← e) (and_parts (p y) (list_all p xs) all).0
at_place p (y ∷ xs) (suc n) x all here = at_place p xs n x (and_parts (p y) (list_all p xs) all).1 here

pub part_listed : (p : Part → Bool) (part : Part) → list_all p all_parts ≡ true → p part ≡ true
part_listed p (Stations pools.Alu) all = at_place p all_parts 0 _ all refl
part_listed p (Stations pools.Mul) all = at_place p all_parts 1 _ all refl
part_listed p (Stations pools.Div) all = at_place p all_parts 2 _ all refl
part_listed p (Stations pools.Load) all = at_place p all_parts 3 _ all refl
part_listed p (Stations pools.Store) all = at_place p all_parts 4 _ all refl
part_listed p (Stations pools.Bru) all = at_place p all_parts 5 _ all refl
part_listed p (Units units.Alu) all = at_place p all_parts 6 _ all refl
part_listed p (Units units.Mul) all = at_place p all_parts 7 _ all refl
part_listed p (Units units.Div) all = at_place p all_parts 8 _ all refl
part_listed p (Units units.Mem) all = at_place p all_parts 9 _ all refl
part_listed p (Units units.Bru) all = at_place p all_parts 10 _ all refl
part_listed p Buses all = at_place p all_parts 11 _ all refl
part_listed p Width all = at_place p all_parts 12 _ all refl

pub unit_listed : (p : UnitId → Bool) (unit : UnitId) → list_all p all_units ≡ true → p unit ≡ true
unit_listed p units.Alu all = at_place p all_units 0 _ all refl
unit_listed p units.Mul all = at_place p all_units 1 _ all refl
unit_listed p units.Div all = at_place p all_units 2 _ all refl
unit_listed p units.Mem all = at_place p all_units 3 _ all refl
unit_listed p units.Bru all = at_place p all_units 4 _ all refl

pub needs_tell : NeedsTell
needs_tell config other h needs are allowed_so =
    let allowed = and_parts (list_all (allows needs config other) all_parts)
    (list_all (allows_latency needs config other) all_units) allowed_so in
    record {
      parts = λ part. part_allowed config other h needs part are
          (part_listed (allows needs config other) part allowed.0);
      latencies = λ unit. latency_allowed config other h needs unit are
          (unit_listed (allows_latency needs config other) unit allowed.1);
    }
