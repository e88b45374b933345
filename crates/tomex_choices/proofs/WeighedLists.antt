-- What is found of a list on all rows, weighed.
use Rattle.std.proofs.Common.{◌≡◌, ℕ, ◌+◌, ◌<◌, ◌≤◌, arith, sym, refl, subst, List, Bool, true}
use Rattle.std.proofs.Common.{false, not}
use Rattle.std.proofs.Common.{inl, inr, ◌⊎◌, ◌&&◌, length}
use Rattle.std.specs.List.{filter, list_any}
use Rattle.std.proofs.lemmas.Bool.{both_ways, false_from_ne_true, not-true}
use Rattle.std.proofs.lemmas.Bool.Decides.{nat_tests}
use Rattle.tomex_config.specs.Configuration.{Configuration, plain}
use Rattle.tomex_pareto.specs.declared.front_row.FrontRow.{FrontRow}
use Rattle.tomex_rvdec.specs.declared.pool.UnitId.TheVariants as units
use Rattle.tomex_study.specs.Study.{DesignSpace, IsStudy, config_at}
use Rattle.tomex_study.specs.StudyFront.{all_rows}
use Rattle.tomex_config.specs.declared.part.Part.{Part}
use Rattle.tomex_config.specs.declared.part.Part.TheVariants.{Stations, Units, Buses, Width}
use Rattle.tomex_config.specs.Parts.{part_at}
use Rattle.tomex_choices.specs.Additions.{saving_of, useful}
use Rattle.tomex_choices.specs.Asking.{IsFound, last_change}
use Rattle.tomex_config.specs.Parts.{most_of}
use Rattle.tomex_choices.specs.Enough.{enough}
use Rattle.tomex_choices.specs.NewMachines.{new_machines}
use Rattle.tomex_choices.specs.Passing.{AreUnbeaten, Has, IsUnbeaten}
use Rattle.tomex_choices.specs.Savings.{beats, is_as_good, is_of_use, saving_among}
use Rattle.tomex_choices.specs.declared.new_machine.NewMachine.{NewMachine}
use Rattle.tomex_choices.proofs.EnoughFrom.{any_at, any_from, change_below, enough_is}
use Rattle.tomex_choices.proofs.Finding.{all_machines_found, all_rows_found, place_in}
use Rattle.tomex_choices.proofs.Members.{from_filter, has_filter}
use Rattle.tomex_choices.proofs.Passes.{has_at}
use Rattle.tomex_choices.proofs.SameSavings.{same_saving}

pub some_of : (part : Part) → 1 ≤ most_of part
some_of (Stations pool) = omega arith
some_of (Units units.Alu) = omega arith
some_of (Units units.Mul) = omega arith
some_of (Units units.Div) = omega arith
some_of (Units units.Mem) = omega arith
some_of (Units units.Bru) = omega arith
some_of Buses = omega arith
some_of Width = omega arith

-- the unbeaten ones of other machines that are the same

same_unbeaten : (xs ys kept : List NewMachine) → ((x : NewMachine) → Has xs x → Has ys x)
    → ((x : NewMachine) → Has ys x → Has xs x) → AreUnbeaten xs kept → AreUnbeaten ys kept
same_unbeaten xs ys kept to from are = record {
  only = λ x h. let w = are.only x h in (to x w.0, λ y i. w.1 y (from y i));
  all = λ x h free. are.all x (from x h) (λ y i. free y (to y i));
  covers = λ x h. are.covers x (from x h);
}

-- of use are those of them that no row is as good as

pub unbeaten_any : (new : List NewMachine) (x : NewMachine) → IsUnbeaten new x → list_any (beats x) new ≡ false
unbeaten_any new x free = false_from_ne_true _ (λ e. let w = any_at (beats x) new e in both_ways _ (free w.0 w.1) w.2)

any_unbeaten : (new : List NewMachine) (x : NewMachine) → list_any (beats x) new ≡ false → IsUnbeaten new x
any_unbeaten new x none y h = false_from_ne_true _ (λ e. both_ways _ none (any_from (beats x) new y h e))

abbrev has_none : List FrontRow → NewMachine → Bool
has_none rows x = not (list_any (is_as_good x) rows)

pub useful_only : (rows : List FrontRow) (new kept : List NewMachine) (x : NewMachine) → AreUnbeaten new kept
    → Has (filter (has_none rows) kept) x → Has (filter (is_of_use rows new) new) x
useful_only rows new kept x are h =
    let w = from_filter (has_none rows) kept x h in
    let o = are.only x w.0 in
    let t : has_none rows x ≡ true = w.1 in
    has_filter (is_of_use rows new) new x o.0 (rw (t, unbeaten_any new x o.1) refl)

pub useful_all : (rows : List FrontRow) (new kept : List NewMachine) (x : NewMachine) → AreUnbeaten new kept
    → Has (filter (is_of_use rows new) new) x → Has (filter (has_none rows) kept) x
useful_all rows new kept x are h =
    let w = from_filter (is_of_use rows new) new x h in
    let t : (has_none rows x && not (list_any (beats x) new)) ≡ true = w.1 in
    let none : has_none rows x ≡ true = grind (arith, nat_tests) in
    let free : not (list_any (beats x) new) ≡ true = grind (arith, nat_tests) in
    has_filter (has_none rows) kept x (are.all x w.0 (any_unbeaten new x (not-true _ free))) none

-- of all rows

module _ (s : DesignSpace) (place : ℕ) (machines kept : List NewMachine) (change : ℕ) (is : IsStudy s)
    (low : place < 13)
    (found : IsFound s 0 (length s.rows) place machines change) (are : AreUnbeaten machines kept) where
  abbrev part : Part
  part = part_at place

  theirs : AreUnbeaten (new_machines s part) kept
  theirs = same_unbeaten machines (new_machines s part) kept found.only
      (λ x h. all_machines_found s place machines change is low found x h) are

  pub only_useful : (x : NewMachine) → Has (filter (λ x. not (list_any (is_as_good x) (all_rows s))) kept) x
      → Has (useful s part) x
  unfolding useful
  only_useful x h = useful_only (all_rows s) (new_machines s part) kept x theirs h

  pub all_useful : (x : NewMachine) → Has (useful s part) x
      → Has (filter (λ x. not (list_any (is_as_good x) (all_rows s))) kept) x
  unfolding useful
  all_useful x h = useful_all (all_rows s) (new_machines s part) kept x theirs h

  pub saving_is : saving_among (all_rows s) kept ≡ saving_of s part
  unfolding saving_of
  saving_is = same_saving (all_rows s) (new_machines s part) kept theirs

  reached : (change ≡ 0) ⊎ ((c : Configuration) × Has s.rows c × (last_change s.programs part c ≡ change))
  reached = elim found.reached [
    | inl none ↦ inl none
    | inr w ↦ inr (config_at s w.0, has_at s.rows w.0 plain w.1, w.2)
  ]

  below : change < most_of part
  below = elim reached [
    | inl none ↦ let some = some_of part in omega (arith, none)
    | inr w ↦
        let l = change_below s.programs part w.0 (some_of part) in
        let same : last_change s.programs part w.0 ≡ change = w.2 in
        omega (arith, same)
  ]

  pub number_is : change + 1 ≡ enough s part
  number_is = sym (enough_is s part change (some_of part)
      (λ c h. let k = place_in s.rows c plain h in
      let has = all_rows_found s place machines change is low found k.0 k.1 in
      subst (λ (d : Configuration). last_change s.programs part d ≤ change) k.2 has.changed)
      reached below)
