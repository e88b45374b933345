-- The column of one program more.
use Rattle.std.proofs.Common.{arith}
use Rattle.std.proofs.lemmas.Grind.{common_steps}
use Rattle.tomex_worth.specs.Worth.{program_column}
use Rattle.tomex_worth.proofs.Turns.{one_more, programs_of, there_too}
use Rattle.tomex_worth.proofs.table.push_each_program.Goals as goal

pub loop-place-preserved : goal.loop-place-preserved
loop-place-preserved g c =
    let s = c.args.surveyed.now in
    one_more s.programs c.programs-program-items.result.now c.loop-place.place c.program-item.result
    (programs_of _ s _ c.programs-program-items.ensures.value c.study.ensures) c.loop-place-test.true c.program-item.is
    (program_column s c.args.machine.own) _ _ _ _ c.in_ok-push.ensures.items c.in_ok-program_column.ensures
    c.loop-place.invariant

pub program_column-requires-clause-program : goal.program_column-requires-clause-program
program_column-requires-clause-program g c =
    let s = c.args.surveyed.now in
    there_too s.programs c.programs-program-items.result.now c.loop-place.place c.program-item.result
    (programs_of _ s _ c.programs-program-items.ensures.value c.study.ensures) c.loop-place-test.true c.program-item.is

pub returns : goal.returns
returns = grind (arith, common_steps)
