-- The record of one list more.
use Rattle.std.proofs.Common.{◌∙◌, ◌++◌, ap, List, ℕ}
use Rattle.std.specs.List.{flat_map}
use Rattle.tomex_layout.specs.Csv.{record_text}
use Rattle.tomex_study.specs.ListFindings.{ListFindings}
use Rattle.tomex_choices_table.specs.ChoicesCsv.{choices_csv_of, list_record}
use Rattle.tomex_choices_table.proofs.Steps.{record_more}
use Rattle.tomex_choices_table.proofs.records.choices_csv.Goals as goal

pub loop-list-init : goal.loop-list-init
unfolding choices_csv_of
loop-list-init g c =
    ap (λ (before : List ℕ). before ++ flat_map list_record c.args.lists.now) c.in_ok-text.ensures

pub loop-list-preserved : goal.loop-list-preserved
unfolding list_record
loop-list-preserved g c =
    record_more list_record c.args.lists.now c.loop-list.list-index c.list-item.result _ _ _ c.loop-list-test.true
    (c.in_ok-text-2.ensures
    ∙ (ap (λ (fields : List (List ℕ)). c.loop-list.text ++ record_text fields) c.in_ok-fields_of.ensures
    ∙ ap (λ (l : ListFindings). c.loop-list.text ++ list_record l) c.list-item.is))
    c.loop-list.invariant
