-- Each configuration is finished with its cycles.
use Rattle.std.proofs.lemmas.List.{take_all}
use Rattle.tomex_sweep.proofs.Verdicts.{all_finished, one_finished}
use Rattle.tomex_sweep.proofs.exhaustive.all_marks.Goals as goal

pub returns : goal.returns
returns g c =
    all_finished c.args.study.now c.rows-config-items.result.now c.loop-config.marks.items
    c.rows-config-items.ensures.value
    (rw (take_all c.loop-config.config-index c.rows-config-items.result.now c.loop-config-test.false) at
    c.loop-config.invariant)

pub cycles-requires-clause-few : goal.cycles-requires-clause-few
cycles-requires-clause-few g c = rw c.programs.ensures.value c.keeps_limits.ensures.few_programs

pub cycles-requires-clause-ends : goal.cycles-requires-clause-ends
cycles-requires-clause-ends g c = rw c.programs.ensures.value c.keeps_limits.ensures.ends

pub loop-config-preserved : goal.loop-config-preserved
loop-config-preserved g c =
    one_finished c.args.study.now.programs c.rows-config-items.result.now c.loop-config.config-index
    c.in_ok-cycles.cycles c.config-item.result c.loop-config.marks.items c.push.new.self.items
    c.in_ok-push.ensures.items c.loop-config-test.true c.config-item.is
    (rw (← c.programs.ensures.value) c.in_ok-cycles.ensures) c.loop-config.invariant
