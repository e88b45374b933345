-- The record's fields are the names.
use Rattle.std.proofs.Common.{◌∙◌, ap, ℕ, List, ◌++◌}
use Rattle.tomex_functions.specs.Changes.{header}
use Rattle.tomex_functions.proofs.report.put_header.Goals as goal

pub returns-clause-text : goal.returns-clause-text
returns-clause-text g c =
    let names = c.in_ok-push_names.ensures.fields
    ∙ ap (λ (f : List (List ℕ)). f ++ header) c.new-record.ensures.fields in
    rw names at c.put_record.ensures.text
