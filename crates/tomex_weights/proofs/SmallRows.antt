-- A row by a weight is small: its cycles are at least the program's part of them, and few.
use Rattle.std.proofs.Common.{◌≡◌, ◌∙◌, ◌*◌, ◌<◌, ◌≤◌, ℕ, ap, arith, subst, sym, List, get_or, length}
use Rattle.std.specs.List.{Contains}
use Rattle.std.proofs.lemmas.List.{get_or-map}
use Rattle.tomex_config.specs.Configuration.{plain}
use Rattle.tomex_pareto.specs.declared.front_row.FrontRow.{FrontRow}
use Rattle.tomex_pareto.proofs.Pareto.{among}
use Rattle.tomex_pareto.proofs.Rows.{row_at}
use Rattle.tomex_study.specs.Cycles.{cycles_of, cycles_on}
use Rattle.tomex_study.specs.Program.{Workload}
use Rattle.tomex_study.specs.Study.{DesignSpace, IsStudy, config_at}
use Rattle.tomex_study.specs.StudyFront.{all_rows}
use Rattle.tomex_study.proofs.Bounds.{cycles_bound}
use Rattle.tomex_study.proofs.Rows.{as_many_rows}
use Rattle.tomex_weights.specs.Reweighted.{own_cycles, weight_at}
use Rattle.tomex_weights.proofs.Reweighing.{part_within}

-- a row's number and its cycles
pub record IsRowOf (s : DesignSpace) (r : FrontRow) : Type 0 where
  pub within : r.row < length s.rows
  pub cycles : r.cycles ≡ cycles_on s.programs (config_at s r.row)

pub row_of : (s : DesignSpace) (r : FrontRow) → IsStudy s → Contains (all_rows s) r → IsRowOf s r
unfolding cycles_of
row_of s r is one =
    let at = row_at 0 s.costs (cycles_of s) r (among (all_rows s) r one) in
    let costs = as_many_rows s is in
    let low : at.k < length s.rows = (let w = at.within in omega arith) in
    let number : at.k ≡ r.row = (let n = at.number in omega arith) in
    record {
      within = subst (λ (k : ℕ). k < length s.rows) number low;
      cycles = at.cycles_are ∙ (get_or-map (cycles_on s.programs) s.rows at.k plain 0 low
          ∙ ap (λ (k : ℕ). cycles_on s.programs (config_at s k)) number);
    }

-- a weight and cycles of its program on a row
pub record ArePartOf (s : DesignSpace) (place : ℕ) (r : FrontRow) (w t : ℕ) : Type 0 where
  pub weight : w ≡ weight_at s place
  pub times : t ≡ own_cycles s place r.row
  pub within : w * t ≤ r.cycles
  pub few : r.cycles ≤ 140509184000

pub part_small : (s : DesignSpace) (place : ℕ) (r : FrontRow) {programs : List Workload} {p : Workload}
    {weight times : ℕ} → IsStudy s → place < length s.programs → Contains (all_rows s) r → programs ≡ s.programs
    → p ≡ get_or programs place p → weight ≡ p.weight → times ≡ own_cycles s place r.row
    → ArePartOf s place r weight times
part_small s place r {programs} {p} {weight} {times} is low one all own weighs times_is =
    let its = row_of s r is one in
    let config = config_at s r.row in
    let weight_is : weight ≡ weight_at s place =
    weighs ∙ (ap (λ (q : Workload). q.weight) (own ∙ ap (λ (ps : List Workload). get_or ps place p) all)
    ∙ sym (get_or-map (λ (q : Workload). q.weight) s.programs place p 0 low)) in
    record {
      weight = weight_is;
      times = times_is;
      within = rw (weight_is, times_is, its.cycles) (part_within s.programs place config low);
      few = rw its.cycles
          (cycles_bound s.programs config (is.limits r.row plain its.within) is.ends is.few_programs);
    }
