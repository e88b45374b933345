-- The record's fields are those of the row.
use Rattle.tomex_functions.proofs.function_rows.put_row.Goals as goal

pub returns-clause-text : goal.returns-clause-text
returns-clause-text g c = rw c.in_ok-fill_row.ensures at c.put_record.ensures.text
