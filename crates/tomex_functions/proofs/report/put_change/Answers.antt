-- The record's fields are those of the name.
use Rattle.tomex_functions.proofs.report.put_change.Goals as goal

pub returns-clause-text : goal.returns-clause-text
returns-clause-text g c = rw c.in_ok-fill_change.ensures at c.put_record.ensures.text
