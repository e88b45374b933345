-- The report of loops is of the run that was chosen.
use Rattle.tomex_command.proofs.commands.run_view.shown.Goals as goal

pub returns-in_ok-loops_report-in-Loops-clause-text : goal.returns-in_ok-loops_report-in-Loops-clause-text
returns-in_ok-loops_report-in-Loops-clause-text g c =
    rw (c.in-Loops.is) (rw c.run-run.ensures.steps at c.in_ok-loops_report-in-Loops.ensures)
