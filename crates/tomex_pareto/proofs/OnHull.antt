-- Which rows are on the hull, and that rates don't rise along it.
use Rattle.std.proofs.Common.{◌≡◌, ◌<◌, ◌≤◌, ◌-◌, ◌*◌, ap, arith, inl, inr, not, List, true}
use Rattle.std.specs.List.{filter}
use Rattle.std.proofs.lemmas.Bool.{both_ways, cases_Bool, false_from_ne_true, not-true}
use Rattle.std.proofs.lemmas.Bool.Decides.{nat_tests}
use Rattle.std.proofs.lemmas.List.Elements.{All-contains, All-filter, filter_passes}
use Rattle.tomex_pareto.specs.declared.front_row.FrontRow.{FrontRow}
use Rattle.tomex_pareto.proofs.Pareto.{Has, filter_has, has_at, has_contains}
use Rattle.tomex_pareto.specs.Hull.{hull_of, is_flatter, is_unmixed}
use Rattle.tomex_pareto.proofs.Mixes.{Mix, is_mixed, mix_of, mixed}

pub hull_within : (front : List FrontRow) (r : FrontRow) → Has (hull_of front) r → Has front r
unfolding hull_of
hull_within front r h = All-contains (Has front) (filter (is_unmixed front) front) r
    (All-filter (is_unmixed front) (Has front) front (has_at front)) (has_contains _ r h)

pub hull_unmixed : (front : List FrontRow) (r : FrontRow) → Has (hull_of front) r → Mix front r → ⊥
unfolding hull_of
hull_unmixed front r h m = both_ways (is_mixed front r) (not-true _ (All-contains (λ x. is_unmixed front x ≡ true)
    (filter (is_unmixed front) front) r (filter_passes _ front) (has_contains _ r h))) (mixed front r m)

pub on_hull : (front : List FrontRow) (r : FrontRow) → Has front r → (Mix front r → ⊥) → Has (hull_of front) r
unfolding hull_of
on_hull front r h free = filter_has (is_unmixed front) front r h
    (ap not (false_from_ne_true (is_mixed front r) (λ t. free (mix_of front r t))))

pub rates_fall : (front : List FrontRow) (a r b : FrontRow) → Has front a → Has (hull_of front) r → Has front b
    → a.cost < r.cost → r.cost < b.cost
    → (r.cycles - b.cycles) * (r.cost - a.cost) ≤ (a.cycles - r.cycles) * (b.cost - r.cost)
rates_fall front a r b ha h hb up on = elim (cases_Bool (is_flatter a r r b)) [
  | inl e ↦ absurd (hull_unmixed front r h
      (record { a = a; b = b; has_a = ha; has_b = hb; above = grind (arith, nat_tests) }))
  | inr e ↦ grind (arith, nat_tests)
]
