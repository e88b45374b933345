-- Each program's law says that it ends.
use Rattle.tomex_study.specs.Program.{IsProgram}
use Rattle.tomex_study.proofs.Each.{one_more, all_of}
use Rattle.tomex_study.proofs.study.each_ends.Goals as goal

pub loop-program-preserved : goal.loop-program-preserved
loop-program-preserved g c =
    one_more IsProgram c.args.programs.now c.loop-program.program-index c.program-item.result c.loop-program-test.true
    c.loop-program.invariant c.program-item.is c.keeps_limits.ensures

pub returns : goal.returns
returns g c = all_of IsProgram c.args.programs.now c.loop-program.program-index c.loop-program-test.false
    c.loop-program.invariant
