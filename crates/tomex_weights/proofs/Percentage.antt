-- All weights wrong at once: a row of the front stays within its percentage, and with one percent more it may not.
use Rattle.std.proofs.Common.{◌≡◌, ◌∙◌, ◌*◌, ◌+◌, ℕ, ap, refl, subst, sym, List, [], ◌∷◌, map, min}
use Rattle.std.specs.Prelude.{sum_by}
use Rattle.tomex_pareto.specs.Front.{is_undominated}
use Rattle.tomex_pareto.specs.declared.front_row.FrontRow.{FrontRow}
use Rattle.tomex_pareto.proofs.Pareto.{Has, among, has_contains}
use Rattle.tomex_pareto.specs.Percent.{AreWithin, difference_of, least_of, percent_by}
use Rattle.tomex_pareto.specs.Spans.{swapped}
use Rattle.tomex_pareto.proofs.Factors as spans
use Rattle.tomex_pareto.proofs.NewCosts.{costed}
use Rattle.tomex_pareto.proofs.Swapped.{free_swapped, has_swapped, swapped_back}
use Rattle.tomex_study.specs.Cycles.{cycles_on, total_at}
use Rattle.tomex_study.specs.Program.{Workload}
use Rattle.tomex_study.specs.Study.{DesignSpace, IsStudy}
use Rattle.tomex_study.specs.StudyFront.{all_rows}
use Rattle.tomex_weights.specs.AllWeights.{Factors, IsStatedAtHundred, LeavesBeyondPercent, StaysIfHundred}
use Rattle.tomex_weights.specs.AllWeights.{StaysWithinPercent, is_on_at}
use Rattle.tomex_weights.specs.Percent.{difference, percent_of}
use Rattle.tomex_weights.proofs.Recycled.{on_recycled, turned}
use Rattle.tomex_study.proofs.StudyFronts.{front_free}
use Rattle.tomex_weights.proofs.SmallRows.{row_of}

-- a study's weights as amounts, and a program's cycles as how often a row has them

abbrev pub weight : Workload → ℕ
weight p = p.weight

abbrev pub taken : DesignSpace → Workload → FrontRow → ℕ
taken s p r = total_at s p r.row

pub sums : (s : DesignSpace) → IsStudy s → (x : FrontRow) → Has (turned s) x
    → sum_by (λ p. weight p * taken s p x) s.programs ≡ x.cost
unfolding cycles_on
sums s is x there =
    let one = has_contains (all_rows s) (swapped x) (swapped_back (all_rows s) x there) in
    sym (row_of s (swapped x) is one).cycles

least_map : (f : FrontRow → ℕ) (rows : List FrontRow)
    → least_of f (map swapped rows) ≡ least_of (λ j. f (swapped j)) rows
least_map f [] = refl
least_map f (j ∷ js) = ap (min (f (swapped j))) (least_map f js)

percent_is : (s : DesignSpace) (r : FrontRow) (is : IsStudy s)
    → spans.percent weight (taken s) s.programs (turned s) (sums s is) (swapped r) ≡ percent_of s r
unfolding difference percent_of
percent_is s r is = least_map
    (λ j. percent_by (difference_of weight (taken s) s.programs (swapped r) j) (swapped r) j)
    (all_rows s)

-- on the front as stated, and at factors

module _ (factors : Factors) (s : DesignSpace) (is : IsStudy s) where
  abbrev pub new_cost : FrontRow → ℕ
  new_cost = spans.cost_at weight (taken s) s.programs (turned s) (sums s is) factors

  pub on_is : (r : FrontRow) → Has (all_rows s) r → is_on_at factors s r
      ≡ is_undominated (map (costed new_cost (turned s)) (turned s)) (costed new_cost (turned s) (swapped r))
  on_is r one = on_recycled new_cost s r one

pub stays_within : StaysWithinPercent
stays_within s factors r is one within =
    let free = front_free s r one in
    on_is factors s is r free.0
    ∙ spans.stays_within weight (taken s) s.programs (turned s) (sums s is) factors (swapped r)
    (has_swapped (all_rows s) r free.0) (free_swapped (all_rows s) r free.1)
    (subst (λ (e : ℕ). AreWithin e factors) (sym (percent_is s r is)) within)

pub stays_if_hundred : StaysIfHundred
stays_if_hundred s factors r is one hundred =
    let free = front_free s r one in
    on_is factors s is r free.0
    ∙ spans.stays_if_hundred weight (taken s) s.programs (turned s) (sums s is) factors (swapped r)
    (has_swapped (all_rows s) r free.0) (free_swapped (all_rows s) r free.1) (percent_is s r is ∙ hundred)

pub leaves_beyond : LeavesBeyondPercent
leaves_beyond s r is one few =
    let free = front_free s r one in
    let same = percent_is s r is in
    let it = spans.leaves_beyond weight (taken s) s.programs (turned s) (sums s is) (swapped r)
    (has_swapped (all_rows s) r free.0) (free_swapped (all_rows s) r free.1) (rw same few) in
    record {
      factors = it.factors;
      within = subst (λ (e : ℕ). AreWithin (e + 1) it.factors) same it.within;
      off = on_is it.factors s is r free.0 ∙ it.off;
    }

pub stated_at_hundred : IsStatedAtHundred
stated_at_hundred s r is one =
    spans.at_hundred weight (taken s) s.programs (turned s) (sums s is) (swapped r)
    (has_swapped (all_rows s) r (among (all_rows s) r one))
