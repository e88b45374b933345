-- One step more, and the cycles after the last issue.
use Rattle.std.proofs.lemmas.Grind.{common_steps}
use Rattle.std.proofs.Common.{◌<◌, ◌≡◌, ◌∙◌, ap, arith, rules, get_or, length, take, List}
use Rattle.std.proofs.lemmas.List.{length-take}
use Rattle.tomex_timing.specs.declared.need.Waits.{Waits}
use Rattle.tomex_timing.proofs.WaitLists.{length-waits_in}
use Rattle.tomex_run_views.proofs.Gaps.{drain_turn, issue_below}
use Rattle.tomex_run_views.proofs.drain.drain_of.Goals as goal

abbrev no_waits : Waits
no_waits = record { branch = 0; width = 0; station = 0; operand = 0; address = 0; memory = 0; unit = 0; bus = 0 }

pub bounds-waits-index : goal.bounds-waits-index
bounds-waits-index c = omega (
  arith,
  ap length c.requires.waits,
  length-waits_in c.args.config.now c.args.steps.now,
  c.loop-index-test.true,
)

pub cycles_of-issue-requires : goal.cycles_of-issue-requires
cycles_of-issue-requires c =
    let pairs : length c.args.waits.now ≡ length c.args.steps.now =
    ap length c.requires.waits ∙ length-waits_in c.args.config.now c.args.steps.now in
    let within : c.loop-index.index < length c.args.waits.now = omega (arith, pairs, c.loop-index-test.true) in
    search rules

pub overflow_add-issue : goal.overflow_add-issue
overflow_add-issue c =
    let low = issue_below c.args.config.now (take c.loop-index.index c.args.steps.now) c.keeps_limits.ensures in
    omega (
      arith,
      low.0,
      low.1,
      length-take c.loop-index.index c.args.steps.now,
      c.loop-index.invariant.issue,
      c.requires.few,
      c.cycles_of-issue.ensures.bound,
    )

pub overflow_add-issue-in-loop-index : goal.overflow_add-issue-in-loop-index
overflow_add-issue-in-loop-index c =
    let low = issue_below c.args.config.now (take c.loop-index.index c.args.steps.now) c.keeps_limits.ensures in
    omega (
      arith,
      low.0,
      low.1,
      length-take c.loop-index.index c.args.steps.now,
      c.loop-index.invariant.issue,
      c.requires.few,
      c.cycles_of-issue.ensures.bound,
      c.cycles_under_way.ensures.bound,
    )

pub loop-index-preserved : goal.loop-index-preserved
loop-index-preserved c =
    let turn = drain_turn c.args.config.now c.args.steps.now c.loop-index.index no_waits c.keeps_limits.ensures
    c.loop-index-test.true c.index-steps-index.is
    (ap (λ (ws : List Waits). get_or ws c.loop-index.index no_waits) c.requires.waits) c.loop-index.invariant.issue
    c.loop-index.invariant.end c.cycles_of-issue.ensures.value c.cycles_under_way.ensures.value c.max-end.ensures in
    record { issue = turn.0; end = turn.1 }

pub overflow_sub-result : goal.overflow_sub-result
overflow_sub-result c =
    let low = issue_below c.args.config.now (take c.loop-index.index c.args.steps.now) c.keeps_limits.ensures in
    omega (arith, low.0, c.loop-index.invariant.issue, c.loop-index.invariant.end)

pub returns-clause-bound : goal.returns-clause-bound
returns-clause-bound c =
    let low = issue_below c.args.config.now (take c.loop-index.index c.args.steps.now) c.keeps_limits.ensures in
    omega (
      arith,
      low.1,
      length-take c.loop-index.index c.args.steps.now,
      c.loop-index.invariant.end,
      c.requires.few,
    )

pub cycles_under_way-requires : goal.cycles_under_way-requires
cycles_under_way-requires = grind (arith, common_steps)
