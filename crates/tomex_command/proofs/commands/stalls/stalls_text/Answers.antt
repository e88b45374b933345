-- Each report is of the run that was chosen.
use Rattle.tomex_command.proofs.commands.stalls.stalls_text.Goals as goal

pub returns-in_ok-stalls_by_pc_and_function-clause-text : goal.returns-in_ok-stalls_by_pc_and_function-clause-text
returns-in_ok-stalls_by_pc_and_function-clause-text g c =
    rw (c.if-line.true, c.if-line-2.true) (
      c.in_ok-stalls_by_pc_and_function.ensures.some,
      rw c.run-run.ensures.steps at c.in_ok-stalls_by_pc_and_function.ensures.text,
    )

pub returns-in_ok-stalls_by_function-clause-text : goal.returns-in_ok-stalls_by_function-clause-text
returns-in_ok-stalls_by_function-clause-text g c =
    rw (c.if-line.true, c.if-line-2.false) (
      c.in_ok-stalls_by_function.ensures.some,
      rw c.run-run.ensures.steps at c.in_ok-stalls_by_function.ensures.text,
    )

pub returns-in_ok-stalls_by_pc-clause-text : goal.returns-in_ok-stalls_by_pc-clause-text
returns-in_ok-stalls_by_pc-clause-text g c =
    rw (c.if-line.false, c.if-line-3.true) (rw c.run-run.ensures.steps at c.in_ok-stalls_by_pc.ensures)
