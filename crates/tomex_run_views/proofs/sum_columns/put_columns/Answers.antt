-- The record's fields are the names.
use Rattle.std.proofs.Common.{◌≡◌, ◌∙◌, ap, map, ℕ, List, ◌++◌}
use Rattle.csv.specs.Records.{fields_of}
use Rattle.tomex_run_views.proofs.sum_columns.put_columns.Goals as goal

pub returns-clause-text : goal.returns-clause-text
returns-clause-text g c =
    let names : fields_of c.push_names.new.fields ≡ map (λ n. n.now) c.args.names.now =
    c.in_ok-push_names.ensures.fields
    ∙ ap (λ (f : List (List ℕ)). f ++ map (λ n. n.now) c.args.names.now) c.new-record.ensures.fields in
    let both : fields_of c.push_names-2.new.fields ≡ map (λ n. n.now) c.args.names.now ++ g.S.SumColumns.names =
    c.in_ok-push_names-2.ensures.fields ∙ ap (λ (f : List (List ℕ)). f ++ g.S.SumColumns.names) names in
    rw both at c.put_record.ensures.text
