-- What is written is the line.
use Rattle.tomex_command.proofs.reporting.report_line.Goals as goal

pub returns-in-Ok-clause-line : goal.returns-in-Ok-clause-line
returns-in-Ok-clause-line g c =
    rw c.in-Ok.is (c.status.ensures, rw c.as_bytes.ensures.value at c.write_text.ensures)
