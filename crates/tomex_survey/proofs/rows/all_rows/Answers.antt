-- One more row, whose cycles are the weighted sum of its totals.
use Rattle.std.proofs.lemmas.Grind.{common_steps}
use Rattle.std.proofs.Common.{◌≡◌, ◌<◌, ◌≤◌, ◌∙◌, ap, arith, get_or, length, subst, sym, take, All, List, ℕ, []}
use Rattle.tomex_config.specs.Configuration.{plain}
use Rattle.tomex_study.specs.Cycles.{cycles_on, totals_on}
use Rattle.tomex_study.specs.Program.{IsProgram, Workload}
use Rattle.tomex_study.proofs.Rows.{as_many_rows}
use Rattle.tomex_survey.proofs.Weighing.{last_row, no_row, one_row}
use Rattle.tomex_survey.proofs.Weighing.{as_many_totals, totals_at}
use Rattle.tomex_survey.proofs.rows.all_rows.Goals as goal

pub loop-row-init : goal.loop-row-init
loop-row-init g c = no_row c.args.study.now _ c.in_ok-rows.ensures.items

pub bounds-costs-row : goal.bounds-costs-row
bounds-costs-row g c =
    let many = as_many_totals c.args.study.now c.args.totals.now c.requires in
    let costs = as_many_rows c.args.study.now c.keeps_limits.ensures in
    let low : c.loop-row.row < length c.args.study.now.costs = omega (arith, many, costs, c.loop-row-test.true) in
    subst (λ (cs : List ℕ). c.loop-row.row < length cs) (sym c.costs.ensures.value) low

pub cycles_by_weight-requires-clause-ends : goal.cycles_by_weight-requires-clause-ends
cycles_by_weight-requires-clause-ends g c =
    subst (All IsProgram) (sym c.programs-programs.ensures.value) c.keeps_limits.ensures.ends

pub cycles_by_weight-requires-clause-totals : goal.cycles_by_weight-requires-clause-totals
cycles_by_weight-requires-clause-totals g c =
    let many = as_many_totals c.args.study.now c.args.totals.now c.requires in
    let low : c.loop-row.row < length c.args.study.now.rows = omega (arith, many, c.loop-row-test.true) in (
      get_or c.args.study.now.rows c.loop-row.row plain,
      c.keeps_limits.ensures.limits c.loop-row.row plain low,
      subst (λ (ps : List Workload). take (length ps) (get_or c.args.totals.now c.loop-row.row [])
          ≡ totals_on ps (get_or c.args.study.now.rows c.loop-row.row plain)) (sym c.programs-programs.ensures.value)
          (totals_at c.args.study.now c.args.totals.now c.loop-row.row c.requires c.loop-row-test.true),
    )

pub loop-row-preserved : goal.loop-row-preserved
loop-row-preserved g c =
    let many = as_many_totals c.args.study.now c.args.totals.now c.requires in
    let low : c.loop-row.row < length c.args.study.now.rows = omega (arith, many, c.loop-row-test.true) in
    let own = subst (λ (ps : List Workload). take (length ps) (get_or c.args.totals.now c.loop-row.row [])
    ≡ totals_on ps (get_or c.args.study.now.rows c.loop-row.row plain)) (sym c.programs-programs.ensures.value)
    (totals_at c.args.study.now c.args.totals.now c.loop-row.row c.requires c.loop-row-test.true) in
    one_row c.args.study.now c.loop-row.row _ _ _ c.cycles_by_weight.result c.keeps_limits.ensures low
    c.in_ok-push.ensures.items (ap (λ (cs : List ℕ). get_or cs c.loop-row.row 0) c.costs.ensures.value)
    (c.cycles_by_weight.ensures _ own
    ∙ ap (λ (ps : List Workload). cycles_on ps (get_or c.args.study.now.rows c.loop-row.row plain))
    c.programs-programs.ensures.value)
    c.loop-row.invariant

pub returns : goal.returns
returns g c =
    let many = as_many_totals c.args.study.now c.args.totals.now c.requires in
    let past : length c.args.study.now.rows ≤ c.loop-row.row = omega (arith, many, c.loop-row-test.false) in
    last_row c.args.study.now c.loop-row.row _ c.keeps_limits.ensures past c.loop-row.invariant

pub cycles_by_weight-requires-clause-few : goal.cycles_by_weight-requires-clause-few
cycles_by_weight-requires-clause-few = grind (arith, common_steps)
