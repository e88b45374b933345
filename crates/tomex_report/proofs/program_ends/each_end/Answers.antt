-- One more program.
use Rattle.std.proofs.Common.{arith}
use Rattle.std.proofs.lemmas.Grind.{common_steps}
use Rattle.tomex_texts.proofs.Records.{one_more}
use Rattle.tomex_report.proofs.program_ends.each_end.Goals as goal

pub loop-program-preserved : goal.loop-program-preserved
loop-program-preserved g c =
    one_more _ c.args.programs.now _ _ _ c.program-item.result _ c.loop-program.invariant c.loop-program-test.true
    c.program-item.is c.in_ok-program_end.ensures c.in_ok-push.ensures.items

pub returns : goal.returns
returns = grind (arith, common_steps)
