-- Fronts of complete lists: what is worth adding gives them, and no longer or finer list has better ones.
use Rattle.std.proofs.Common.{◌≡◌, ℕ, ◌≤◌, arith, ap, subst, List, ◌++◌, map, inl, inr, Some}
use Rattle.std.specs.List.{Contains, filter, list_any}
use Rattle.tomex_config.specs.Configuration.{Configuration, IsWithinLimits}
use Rattle.tomex_config.specs.Cost.{cost_of}
use Rattle.tomex_pareto.specs.Front.{front_of}
use Rattle.tomex_pareto.specs.declared.front_row.FrontRow.{FrontRow}
use Rattle.tomex_study.specs.Cycles.{cycles_on}
use Rattle.tomex_study.specs.Study.{DesignSpace, IsStudy}
use Rattle.tomex_study.specs.StudyFront.{all_rows}
use Rattle.tomex_config.specs.declared.part.Part.{Part}
use Rattle.tomex_choices.specs.Additions.{additions, has_entry}
use Rattle.tomex_choices.specs.Laws.{AdditionsAreAllThatIsNeeded, CompleteFrontsStand, CompleteListsBuyTheFewest}
use Rattle.tomex_choices.specs.Laws.{IsLonger, added_machines}
use Rattle.tomex_choices.specs.NewMachines.{new_machines}
use Rattle.tomex_choices.specs.Passing.{Has}
use Rattle.tomex_choices.specs.Points.{row_of}
use Rattle.tomex_choices.specs.Savings.{as_row, complete, fewest}
use Rattle.tomex_choices.proofs.Dropping.{as_row as to_row}
use Rattle.tomex_choices.proofs.Longer.{complete_is_complete}
use Rattle.tomex_choices.proofs.Members.{from_filter, from_map, has_either, has_left, has_map, has_right, least_has}
use Rattle.tomex_choices.proofs.Members.{least_is}
use Rattle.tomex_choices.proofs.Needed.{as_good}
use Rattle.tomex_choices.proofs.Passes.{contains_from, has_from}
use Rattle.tomex_choices.proofs.Points.{HasAsGood, front_kept, front_only, no_worse}
use Rattle.tomex_choices.proofs.SameSavings.{bought, from_bought, has_bought}

-- the front with what is worth adding

module _ (s : DesignSpace) (part : Part) (is : IsStudy s) where
  abbrev those : List FrontRow
  those = complete (all_rows s) (added_machines s part)

  abbrev all : List FrontRow
  all = complete (all_rows s) (new_machines s part)

  added_too : (r : FrontRow) → Has those r → Has all r
  added_too r h = elim (has_either (all_rows s) (map as_row (added_machines s part)) r h) [
    | inl a ↦ has_left (all_rows s) (map as_row (new_machines s part)) r a
    | inr b ↦
        let x = from_map as_row (added_machines s part) r b in
        let one = from_filter (λ x. list_any (λ c. has_entry part c x) (additions s part)) (new_machines s part) x.0
        x.1 in
        has_right (all_rows s) (map as_row (new_machines s part)) r
        (subst (Has (map as_row (new_machines s part))) x.2 (has_map as_row (new_machines s part) x.0 one.0))
  ]

  added_cover : (q : FrontRow) → Has all q → HasAsGood those q
  added_cover q h = elim (has_either (all_rows s) (map as_row (new_machines s part)) q h) [
    | inl a ↦ (q, has_left (all_rows s) (map as_row (added_machines s part)) q a, omega arith, omega arith)
    | inr b ↦
        let x = from_map as_row (new_machines s part) q b in
        let r = as_good s part is x.0 x.1 in
        let costs : x.0.cost ≡ q.cost = ap (λ (w : FrontRow). w.cost) x.2 in
        let takes : x.0.cycles ≡ q.cycles = ap (λ (w : FrontRow). w.cycles) x.2 in
        let cheap : r.0.cost ≤ x.0.cost = r.2 in
        let fast : r.0.cycles ≤ x.0.cycles = r.3 in
        (r.0, r.1, omega (arith, costs), omega (arith, takes))
  ]

pub all_that_is_needed : AdditionsAreAllThatIsNeeded
all_that_is_needed s part is = front_kept _ _ (added_too s part is) (added_cover s part is)

-- longer and finer lists

new_row : (s : DesignSpace) (part : Part) (d : Configuration) → IsWithinLimits d → IsLonger s part d
    → (r : FrontRow) × Has (complete (all_rows s) (new_machines s part)) r
    × (r.cost ≤ cost_of d s.prices) × (r.cycles ≡ cycles_on s.programs d)
new_row s part d within longer =
    let new = new_machines s part in
    let x = complete_is_complete s part d within longer in (
      as_row x.0,
      has_right (all_rows s) (map as_row new) (as_row x.0) (has_map as_row new x.0 (has_from new x.0 x.1)),
      x.2,
      x.3,
    )

module _ (s : DesignSpace) (part : Part) (ds : List Configuration)
    (longer : (d : Configuration) → Contains ds d → IsWithinLimits d × IsLonger s part d) where
  abbrev with_them : List FrontRow
  with_them = all_rows s ++ map (row_of s) ds

  abbrev with_new : List FrontRow
  with_new = complete (all_rows s) (new_machines s part)

  new_cover : (q : FrontRow) → Has with_them q → HasAsGood with_new q
  new_cover q h = elim (has_either (all_rows s) (map (row_of s) ds) q h) [
    | inl a ↦ (q, has_left (all_rows s) (map as_row (new_machines s part)) q a, omega arith, omega arith)
    | inr b ↦
        let d = from_map (row_of s) ds q b in
        let l = longer d.0 (contains_from ds d.0 d.1) in
        let r = new_row s part d.0 l.0 l.1 in
        let costs : cost_of d.0 s.prices ≡ q.cost = ap (λ (w : FrontRow). w.cost) d.2 in
        let takes : cycles_on s.programs d.0 ≡ q.cycles = ap (λ (w : FrontRow). w.cycles) d.2 in
        let cheap : r.0.cost ≤ cost_of d.0 s.prices = r.2 in
        let same : r.0.cycles ≡ cycles_on s.programs d.0 = r.3 in
        (r.0, r.1, omega (arith, costs), omega (arith, takes, same))
  ]

  pub fewest_bought : (cost n : ℕ) → fewest with_them cost ≡ Some n
      → (m : ℕ) × (fewest with_new cost ≡ Some m) × (m ≤ n)
  fewest_bought cost n is =
      let w = from_bought with_them cost n (least_has (bought with_them cost) n is) in
      let low : w.0.cost ≤ cost = w.2 in
      let cycles : w.0.cycles ≡ n = w.3 in
      let r = new_cover w.0 w.1 in
      let cheap : r.0.cost ≤ w.0.cost = r.2 in
      let fast : r.0.cycles ≤ w.0.cycles = r.3 in
      let m = least_is (bought with_new cost) r.0.cycles (has_bought with_new cost r.0 r.1 (omega arith)) in
      let less : m.0 ≤ r.0.cycles = m.2 in
      (m.0, m.1, omega (arith, cycles))

pub complete_buys_fewest : CompleteListsBuyTheFewest
complete_buys_fewest s part ds cost n longer is = fewest_bought s part ds longer cost n is

pub front_stands : CompleteFrontsStand
front_stands s part d r within longer on above =
    let those = complete (all_rows s) (new_machines s part) in
    let x = new_row s part d within longer in
    let own = front_only those r (has_from (front_of those) r on) in
    own.1 x.0 (to_row those x.0 x.1)
    (no_worse x.0 (row_of s d) r x.2 (let same = x.3 in omega (arith, same)) above)
