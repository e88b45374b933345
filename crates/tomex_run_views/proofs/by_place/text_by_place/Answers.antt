-- The text is what was written.
use Rattle.std.proofs.Common.{◌≡◌, ◌∙◌, ◌++◌, [], ap, map, rules, ℕ, List}
use Rattle.std.proofs.lemmas.Result.{IfOk-weaker}
use Rattle.tomex_layout.specs.Csv.{text_written}
use Rattle.tomex_run_views.specs.Tally.{report_of_counted}
use Rattle.tomex_run_views.proofs.by_place.text_by_place.Goals as goal

pub returns-clause-text : goal.returns-clause-text
returns-clause-text g c =
    let nothing : text_written (λ v. v.items) c.from_writer-writer.result ≡ [] = search rules in
    IfOk-weaker c.into_text.result _ _
    (λ text is own shows. is ∙ (c.in_ok-put_counted.ensures.text own shows
    ∙ ap (λ (w : List ℕ). w ++ report_of_counted (map (λ n. n.now) c.args.names.now) own c.args.counted.now) nothing))
    c.into_text.ensures
