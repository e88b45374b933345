-- The text that is written is the line's.
use Rattle.tomex_command.proofs.reporting.write_cannot_write.Goals as goal

pub returns : goal.returns
returns g c = rw (c.as_bytes.ensures.value) at c.write_text.ensures
