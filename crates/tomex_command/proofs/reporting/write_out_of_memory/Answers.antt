-- The text that is written is the line's.
use Rattle.tomex_command.proofs.reporting.write_out_of_memory.Goals as goal

pub returns : goal.returns
returns g c = rw (c.as_bytes.ensures.value) at c.write_text.ensures
