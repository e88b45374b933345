-- Its cost at the study's prices, and its weighted cycles.
use Rattle.std.proofs.Common.{◌≡◌, ◌≤◌, ◌∙◌, List, ap, length, refl, subst, sym}
use Rattle.std.specs.Prelude.{All}
use Rattle.tomex_study.specs.Cycles.{cycles_on, totals_on}
use Rattle.tomex_study.specs.Program.{IsProgram, Workload}
use Rattle.tomex_choices.proofs.asking.new_machine.Goals as goal

pub returns : goal.returns
returns g c =
    let config = c.args.config.now in
    let totals : c.args.totals.now ≡ totals_on c.programs.result.now config =
    c.requires ∙ ap (λ (ps : List Workload). totals_on ps config) (sym c.programs.ensures.value) in
    let cycles : c.cycles_by_weight.result ≡ cycles_on c.args.study.now.programs config =
    c.cycles_by_weight.ensures config totals
    ∙ ap (λ (ps : List Workload). cycles_on ps config) c.programs.ensures.value in
    rw (c.latency.ensures, c.cost.ensures.cost, c.prices.ensures.value, cycles) refl

pub cycles_by_weight-requires-clause-ends : goal.cycles_by_weight-requires-clause-ends
cycles_by_weight-requires-clause-ends g c =
    subst (λ (ps : List Workload). All IsProgram ps) (sym c.programs.ensures.value) c.keeps_limits.ensures.ends

pub cycles_by_weight-requires-clause-few : goal.cycles_by_weight-requires-clause-few
cycles_by_weight-requires-clause-few g c =
    subst (λ (ps : List Workload). length ps ≤ 8) (sym c.programs.ensures.value) c.keeps_limits.ensures.few_programs

pub cycles_by_weight-requires-clause-totals : goal.cycles_by_weight-requires-clause-totals
cycles_by_weight-requires-clause-totals g c =
    let config = c.args.config.now in
    let totals = c.requires ∙ ap (λ (ps : List Workload). totals_on ps config) (sym c.programs.ensures.value) in
    (config, c.keeps_limits-2.ensures, totals)
