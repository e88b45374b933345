-- All rows of a study with other costs, and their own as sums of what they pay.
use Rattle.std.proofs.Common.{◌≡◌, ◌∙◌, ◌<◌, ℕ, ap, arith}
use Rattle.std.proofs.Common.{sym, subst, List, get_or, length, map}
use Rattle.std.specs.Prelude.{sum_by}
use Rattle.std.proofs.lemmas.List.{get_or-map}
use Rattle.tomex_config.specs.Configuration.{plain}
use Rattle.tomex_config.specs.Cost.{cost_of}
use Rattle.tomex_pareto.specs.Front.{front_of, is_on, is_undominated}
use Rattle.tomex_pareto.specs.declared.front_row.FrontRow.{FrontRow}
use Rattle.tomex_pareto.proofs.Rows.{row_at, rows_numbered}
use Rattle.tomex_pareto.proofs.Pareto.{Has}
use Rattle.tomex_study.specs.Study.{DesignSpace, IsStudy}
use Rattle.tomex_study.specs.Cycles.{cycles_of}
use Rattle.tomex_study.specs.StudyFront.{all_rows}
use Rattle.tomex_pareto.proofs.NewCosts.{costed, costed_on}
use Rattle.tomex_prices.specs.Prices.{prices_of}
use Rattle.tomex_prices.specs.Studies.{config_of}
use Rattle.tomex_prices.proofs.AllCosts.{cost_is_shares, share}
use Rattle.tomex_study.proofs.Rows.{as_many_rows}

-- a row's cost is that of its configuration
pub config_cost : (s : DesignSpace) (r : FrontRow) → IsStudy s → Has (all_rows s) r
    → cost_of (config_of s r) s.prices ≡ r.cost
config_cost s r is one =
    let at = row_at 0 s.costs (cycles_of s) r one in
    let costs = as_many_rows s is in
    let low : at.k < length s.rows = (let w = at.within in omega arith) in
    let number : r.row ≡ at.k = (let n = at.number in omega arith) in
    subst (λ (k : ℕ). cost_of (get_or s.rows k plain) s.prices ≡ r.cost) (sym number)
    (sym (get_or-map (λ config. cost_of config s.prices) s.rows at.k plain 0 low)
    ∙ (ap (λ (xs : List ℕ). get_or xs at.k 0) (sym is.costs) ∙ sym at.cost))

-- and so the sum of what its configuration pays
pub row_shares : (s : DesignSpace) (r : FrontRow) → IsStudy s → Has (all_rows s) r
    → sum_by (share s.prices (config_of s r)) (prices_of s) ≡ r.cost
row_shares s r is one =
    let at = row_at 0 s.costs (cycles_of s) r one in
    let costs = as_many_rows s is in
    let low : r.row < length s.rows = (let w = at.within in let n = at.number in omega arith) in
    cost_is_shares s r.row low ∙ config_cost s r is one

-- whether it is on the front with other costs, if it is one of all rows
pub on_with_costs : (cost : FrontRow → ℕ) (s : DesignSpace) (r : FrontRow) → Has (all_rows s) r
    → is_on (front_of (map (costed cost (all_rows s)) (all_rows s))) r.row
    ≡ is_undominated (map (costed cost (all_rows s)) (all_rows s)) (costed cost (all_rows s) r)
on_with_costs cost s r one = costed_on cost (all_rows s) r (rows_numbered s.costs (cycles_of s)) one
