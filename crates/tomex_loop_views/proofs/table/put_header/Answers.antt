-- The record's fields are the names.
use Rattle.std.proofs.Common.{◌∙◌, ap, ℕ, List, [], ◌∷◌, ◌++◌, codes}
use Rattle.tomex_loop_views.proofs.table.put_header.Goals as goal

pub returns-clause-text : goal.returns-clause-text
returns-clause-text g c =
    let one = c.in_ok-push_names.ensures.fields
    ∙ ap (λ (f : List (List ℕ)). f ++ codes "pc" ∷ codes "first" ∷ codes "last" ∷ codes "function" ∷ codes "in" ∷ [])
    c.new-record.ensures.fields in
    let two = c.in_ok-push_names-2.ensures.fields
    ∙ ap (λ (f : List (List ℕ)). f ++ codes "entered" ∷ codes "iterations" ∷ codes "steps" ∷ []) one in
    let three = c.in_ok-push_names-3.ensures.fields
    ∙ ap (λ (f : List (List ℕ)). f ++ codes "cycles" ∷ codes "own" ∷ codes "floor" ∷ []) two in
    let four = c.in_ok-push_names-4.ensures.fields
    ∙ ap (λ (f : List (List ℕ)).
    f ++ codes "least" ∷ codes "median" ∷ codes "most" ∷ codes "usual" ∷ codes "alike" ∷ []) three in
    let five = c.in_ok-push_names-5.ensures.fields
    ∙ ap (λ (f : List (List ℕ)). f ++ codes "pattern" ∷ codes "path" ∷ []) four in
    rw five at c.put_record.ensures.text
