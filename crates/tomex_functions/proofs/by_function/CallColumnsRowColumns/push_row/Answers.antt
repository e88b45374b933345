-- The number of calls, and then the sum.
use Rattle.std.proofs.Common.{◌∙◌, ap, append_assoc, ℕ, List, [], ◌∷◌, ◌++◌}
use Rattle.std.specs.Fmt.{decimal}
use Rattle.std.proofs.lemmas.Result.{on_ok_weaker}
use Rattle.csv.specs.Records.{fields_of}
use Rattle.tomex_run_views.specs.Tally.{fields_of_sum}
use Rattle.tomex_functions.proofs.by_function.CallColumnsRowColumns.push_row.Goals as goal

pub returns-clause-fields : goal.returns-clause-fields
returns-clause-fields c =
    let sum = fields_of_sum c.args.row.now.sum in
    on_ok_weaker c.push_sum.result (λ is. is
    ∙ (ap (λ (f : List (List ℕ)). f ++ sum) c.in_ok-push_decimal.ensures.fields
    ∙ append_assoc (fields_of c.args.fields.now) (decimal c.args.row.now.calls ∷ []) sum)) c.push_sum.ensures.fields
