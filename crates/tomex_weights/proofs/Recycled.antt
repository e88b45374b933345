-- Rows with other cycles: when one of them is on the front.
use Rattle.std.proofs.Common.{◌≡◌, ◌∙◌, ◌==◌, ℕ, ap, refl, subst, sym, List, [], ◌∷◌, map}
use Rattle.tomex_pareto.specs.Front.{front_of, is_on, is_undominated}
use Rattle.tomex_pareto.specs.Pareto.{AreNumbered}
use Rattle.tomex_pareto.specs.declared.front_row.FrontRow.{FrontRow}
use Rattle.tomex_pareto.proofs.OnFront.{contains_map, distinct_map, on_front}
use Rattle.tomex_pareto.proofs.Pareto.{Has, among, apart, has_contains}
use Rattle.tomex_pareto.proofs.Rows.{rows_numbered}
use Rattle.tomex_pareto.specs.Spans.{swapped}
use Rattle.tomex_pareto.proofs.NewCosts.{costed}
use Rattle.tomex_pareto.proofs.Swapped.{undominated_swapped}
use Rattle.tomex_study.specs.Cycles.{cycles_of}
use Rattle.tomex_study.specs.Study.{DesignSpace}
use Rattle.tomex_study.specs.StudyFront.{all_rows}

-- all rows, with their cycles as costs
abbrev pub turned : DesignSpace → List FrontRow
turned s = map swapped (all_rows s)

-- the new cycles are what `cost` says of the rows with their cycles as costs

module _ (cost : FrontRow → ℕ) where
  abbrev pub recycled : FrontRow → FrontRow
  recycled r = record { row = r.row; cost = r.cost; cycles = cost (swapped r) }

  both_maps : (whole rows : List FrontRow)
      → map swapped (map recycled rows) ≡ map (costed cost whole) (map swapped rows)
  both_maps whole [] = refl
  both_maps whole (r ∷ rs) = ap (λ (xs : List FrontRow). swapped (recycled r) ∷ xs) (both_maps whole rs)

  pub on_recycled : (s : DesignSpace) (r : FrontRow) → Has (all_rows s) r
      → is_on (front_of (map recycled (all_rows s))) r.row
      ≡ is_undominated (map (costed cost (turned s)) (turned s)) (costed cost (turned s) (swapped r))
  on_recycled s r one =
      let rows = map recycled (all_rows s) in
      let numbered : AreNumbered rows = subst (λ (T : Type 0). T)
      (sym (distinct_map (λ (a b : FrontRow). a.row == b.row) recycled (all_rows s)))
      (rows_numbered s.costs (cycles_of s)) in
      on_front rows (recycled r) (apart rows numbered) (among rows (recycled r)
      (contains_map recycled (all_rows s) r (has_contains (all_rows s) r one)))
      ∙ (sym (undominated_swapped rows (recycled r))
      ∙ ap (λ (xs : List FrontRow). is_undominated xs (swapped (recycled r))) (both_maps (turned s) (all_rows s)))
