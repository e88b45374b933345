-- The fewest cycles of rows, and of machines after them, found one after another.
use Rattle.std.proofs.Common.{◌≡◌, ℕ, ap, sym, refl, ◌∙◌, List, [], ◌∷◌, ◌++◌, map, true}
use Rattle.std.proofs.Common.{inl, inr, None}
use Rattle.std.specs.Prelude.{nat_le}
use Rattle.std.specs.List.{filter}
use Rattle.std.proofs.lemmas.Bool.{cases_Bool}
use Rattle.std.proofs.lemmas.List.{map-append}
use Rattle.std.proofs.lemmas.List.Elements.{filter-append}
use Rattle.tomex_pareto.specs.declared.front_row.FrontRow.{FrontRow}
use Rattle.tomex_survey.specs.Extremes.{least}
use Rattle.tomex_survey.proofs.Leasts.{after, least_append, least_by, least_by_is, least_of_all, lesser_of}
use Rattle.tomex_choices.specs.Savings.{as_row, complete, fewest}
use Rattle.tomex_choices.specs.declared.new_machine.NewMachine.{NewMachine}

-- of rows, and of machines after them
as_rows : (cost : ℕ) (xs : List NewMachine) → map (λ x. x.cycles) (filter (λ x. nat_le x.cost cost) xs)
    ≡ map (λ (r : FrontRow). r.cycles) (filter (λ r. nat_le r.cost cost) (map as_row xs))
as_rows cost [] = refl
as_rows cost (x ∷ xs) = elim (cases_Bool (nat_le x.cost cost)) [
  | inl e ↦ rw (e, as_rows cost xs) refl
  | inr e ↦ rw e (as_rows cost xs)
]

bought_append : (cost : ℕ) (rows more : List FrontRow)
    → map (λ (r : FrontRow). r.cycles) (filter (λ r. nat_le r.cost cost) (rows ++ more))
    ≡ map (λ (r : FrontRow). r.cycles) (filter (λ r. nat_le r.cost cost) rows)
    ++ map (λ (r : FrontRow). r.cycles) (filter (λ r. nat_le r.cost cost) more)
bought_append cost rows more =
    ap (map (λ (r : FrontRow). r.cycles)) (filter-append (λ r. nat_le r.cost cost) rows more)
    ∙ map-append (λ (r : FrontRow). r.cycles) _ _

pub fewest_of_complete : (cost : ℕ) (rows : List FrontRow) (xs : List NewMachine)
    → least_by (λ x. nat_le x.cost cost) (λ x. x.cycles) (fewest rows cost) xs ≡ fewest (complete rows xs) cost
fewest_of_complete cost rows xs =
    after (λ x. nat_le x.cost cost) (λ x. x.cycles) (fewest rows cost) xs
    ∙ (ap (λ (ns : List ℕ). lesser_of (fewest rows cost) (least ns)) (as_rows cost xs)
    ∙ sym (ap least (bought_append cost rows (map as_row xs)) ∙ least_append _ _))

pub fewest_of_rows : (cost : ℕ) (rows : List FrontRow)
    → least_by (λ r. nat_le r.cost cost) (λ r. r.cycles) None rows ≡ fewest rows cost
fewest_of_rows cost rows = least_by_is (λ r. nat_le r.cost cost) (λ r. r.cycles) rows

pub least_of_costs : (rows : List FrontRow)
    → least_by (λ r. true) (λ r. r.cost) None rows ≡ least (map (λ r. r.cost) rows)
least_of_costs rows = least_of_all (λ r. r.cost) rows
