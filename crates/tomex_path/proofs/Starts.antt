-- What holds a start for an access, or for a unit, comes in the cycle before it.
use Rattle.std.proofs.Common.{ℕ, ◌+◌, ◌-◌, ◌<◌, ◌≡◌, Bool, true, false, arith, refl, inl, inr}
use Rattle.std.proofs.Common.{List, [], ◌∷◌, nat_lt, not, ◌==◌, ◌&&◌, ◌||◌, count_by}
use Rattle.std.proofs.lemmas.Bool.{cases_Bool, cases_lt, lt-ltb, and_parts}
use Rattle.std.proofs.lemmas.Bool.Decides.{nat_tests}
use Rattle.std.proofs.lemmas.List.Sums.{sum_by-cons}
use Rattle.tomex_rvdec.specs.declared.pool.UnitId.{UnitId}
use Rattle.tomex_rvexec.specs.Steps.{step_unit}
use Rattle.tomex_rvexec.specs.declared.step.Step.{Step}
use Rattle.tomex_config.specs.Configuration.{Configuration, IsWithinLimits, option_of}
use Rattle.tomex_timing.specs.Ahead.{one}
use Rattle.tomex_timing.specs.declared.times.Done.{Done}
use Rattle.tomex_timing.specs.History.{is_of}
use Rattle.tomex_timing.specs.Recurrence.{are_conflicts_finished, conflicts, has_unit}
use Rattle.tomex_timing.proofs.Limits.{units_low}
use Rattle.tomex_path.specs.declared.event.Event.TheVariants.{Finish, Start}
use Rattle.tomex_path.specs.declared.event.Holder.TheVariants.{Conflict, Unit}
use Rattle.tomex_path.specs.Holds.{access_of, passes}
use Rattle.tomex_path.proofs.Addresses.{before_is, found}
use Rattle.tomex_path.proofs.Chain.{holder_at}

-- if no unit was free in the cycle before, an operation of the kind started in it
pub unit_before : (config : Configuration) (older : List Done) (unit : UnitId) (t : ℕ) → IsWithinLimits config → 0 < t
    → has_unit config older unit (t - 1) ≡ false → holder_at (Unit unit (t - 1)) older + 1 ≡ t
unit_before config older unit t good pos none =
    let few = units_low config unit good in
    found (λ x. is_of unit (step_unit x.step) && x.at.start == t - 1) (passes (Unit unit (t - 1))) Start t older
    (λ o x. refl) (λ x i. before_is (is_of unit (step_unit x.step)) x.at.start t pos i)
    (elim (cases_lt (count_by (λ x. is_of unit (step_unit x.step) && x.at.start == t - 1) older)
    (option_of config unit).units) [
      | inl l ↦ let f : true ≡ false = rw (lt-ltb _ (option_of config unit).units l) at none in absurd (cc)
      | inr l ↦ omega arith
    ])

one_conflict : (c : Bool) (f t : ℕ) → 0 < t → (not c || nat_lt f (t - 1)) ≡ false → (not c || nat_lt f t) ≡ true
    → (c && f == t - 1) ≡ true
one_conflict c f t pos a b = grind (arith, nat_tests)

conflict_there : (h : List Done) (s : Step) (t : ℕ) → 0 < t → are_conflicts_finished h s (t - 1) ≡ false
    → are_conflicts_finished h s t ≡ true → 0 < count_by (λ x. conflicts x.step s && x.at.finish == t - 1) h
conflict_there [] s t pos a b = absurd (cc)
conflict_there (d ∷ h) s t pos a b =
    let q : Done → Bool = λ x. conflicts x.step s && x.at.finish == t - 1 in
    let two = and_parts (not (conflicts d.step s) || nat_lt d.at.finish t) (are_conflicts_finished h s t) b in
    let e : count_by q (d ∷ h) ≡ one (q d) + count_by q h = sum_by-cons (λ x. one (q x)) d h in
    elim (cases_Bool (not (conflicts d.step s) || nat_lt d.at.finish (t - 1))) [
      | inl i ↦
          let k : 0 < count_by q h = conflict_there h s t pos (rw i at a) two.1 in
          omega arith
      | inr i ↦
          let i1 : q d ≡ true = one_conflict (conflicts d.step s) d.at.finish t pos i two.0 in
          let z : one (q d) ≡ 1 = rw i1 refl in
          omega arith
    ]

-- if an access in conflict hadn't finished in the cycle before, and has now, one finished in it
pub access_before : (older : List Done) (d : Done) (t : ℕ) → 0 < t
    → are_conflicts_finished older d.step (t - 1) ≡ false → are_conflicts_finished older d.step t ≡ true
    → holder_at (Conflict (access_of d) (t - 1)) older + 1 ≡ t
access_before older d t pos a b =
    found (λ x. conflicts x.step d.step && x.at.finish == t - 1) (passes (Conflict (access_of d) (t - 1))) Finish t
    older (λ o x. refl) (λ x i. before_is (conflicts x.step d.step) x.at.finish t pos i)
    (conflict_there older d.step t pos a b)
