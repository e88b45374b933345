-- The record's fields are the names.
use Rattle.std.proofs.Common.{◌≡◌, ◌∙◌, ap, map, ℕ, List, [], ◌∷◌, ◌++◌, codes}
use Rattle.csv.specs.Records.{fields_of}
use Rattle.tomex_run_views.proofs.places.put_header.Goals as goal

pub returns-clause-text : goal.returns-clause-text
returns-clause-text g c =
    let more : List (List ℕ) = map (λ n. n.now) c.args.names.now in
    let first : fields_of c.push_names.new.fields ≡ codes "pc" ∷ codes "instr" ∷ [] =
    c.in_ok-push_names.ensures.fields
    ∙ ap (λ (f : List (List ℕ)). f ++ codes "pc" ∷ codes "instr" ∷ []) c.new-record.ensures.fields in
    let both : fields_of c.push_names-2.new.fields ≡ codes "pc" ∷ codes "instr" ∷ more =
    c.in_ok-push_names-2.ensures.fields ∙ ap (λ (f : List (List ℕ)). f ++ more) first in
    let all : fields_of c.push_names-3.new.fields ≡ codes "pc" ∷ codes "instr" ∷ more ++ g.S.SumColumns.names =
    c.in_ok-push_names-3.ensures.fields ∙ ap (λ (f : List (List ℕ)). f ++ g.S.SumColumns.names) both in
    rw all at c.put_record.ensures.text
