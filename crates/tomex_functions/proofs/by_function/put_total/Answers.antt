-- The record's fields, one after the other.
use Rattle.std.proofs.Common.{◌∙◌, ap, ℕ, List, [], ◌∷◌, ◌++◌, codes}
use Rattle.std.specs.Fmt.{decimal}
use Rattle.tomex_run_views.specs.Tally.{fields_of_sum}
use Rattle.tomex_functions.proofs.by_function.put_total.Goals as goal

pub returns : goal.returns
returns g c =
    let names = c.in_ok-push_names.ensures.fields
    ∙ ap (λ (f : List (List ℕ)). f ++ codes "total" ∷ codes "-" ∷ []) c.new-record.ensures.fields in
    let calls = c.in_ok-push_decimal.ensures.fields
    ∙ ap (λ (f : List (List ℕ)). f ++ decimal c.args.listing.now.calls ∷ []) names in
    let all = c.in_ok-push_sum.ensures.fields
    ∙ ap (λ (f : List (List ℕ)). f ++ fields_of_sum c.args.listing.now.total) calls in
    rw all at c.put_record.ensures.text
