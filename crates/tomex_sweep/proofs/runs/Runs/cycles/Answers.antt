-- One more program's cycles.
use Rattle.std.proofs.Common.{◌∙◌, List, ap, arith, sym}
use Rattle.std.proofs.lemmas.List.{take_all}
use Rattle.tomex_study.specs.Cycles.{cycles_on}
use Rattle.tomex_study.specs.Program.{Workload}
use Rattle.tomex_plateaus.proofs.Totals.{next_cycles, no_cycles}
use Rattle.tomex_sweep.proofs.runs.Runs.cycles.Goals as goal

pub loop-program-init : goal.loop-program-init
loop-program-init g c = sym (no_cycles c.args.programs.now c.args.config.now)

pub overflow_mul-cycles : goal.overflow_mul-cycles
overflow_mul-cycles g c =
    let w = next_cycles c.args.programs.now c.loop-program.program-index c.program-item.result c.args.config.now
    c.in_ok-cycles.field-0 c.loop-program.cycles c.keeps_limits.ensures c.requires.ends c.requires.few
    c.loop-program-test.true c.program-item.is c.in_ok-cycles.ensures c.loop-program.invariant in
    rw (c.from.ensures, c.weight.ensures.value) (omega (arith, w.1))

pub overflow_add-cycles : goal.overflow_add-cycles
overflow_add-cycles g c =
    let w = next_cycles c.args.programs.now c.loop-program.program-index c.program-item.result c.args.config.now
    c.in_ok-cycles.field-0 c.loop-program.cycles c.keeps_limits.ensures c.requires.ends c.requires.few
    c.loop-program-test.true c.program-item.is c.in_ok-cycles.ensures c.loop-program.invariant in
    rw (c.from.ensures, c.weight.ensures.value) (omega (arith, w.2))

pub loop-program-preserved : goal.loop-program-preserved
loop-program-preserved g c =
    let w = next_cycles c.args.programs.now c.loop-program.program-index c.program-item.result c.args.config.now
    c.in_ok-cycles.field-0 c.loop-program.cycles c.keeps_limits.ensures c.requires.ends c.requires.few
    c.loop-program-test.true c.program-item.is c.in_ok-cycles.ensures c.loop-program.invariant in
    rw (c.from.ensures, c.weight.ensures.value) w.0

pub returns : goal.returns
returns g c =
    c.loop-program.invariant ∙ ap (λ (programs : List Workload). cycles_on programs c.args.config.now)
    (take_all c.loop-program.program-index c.args.programs.now c.loop-program-test.false)
