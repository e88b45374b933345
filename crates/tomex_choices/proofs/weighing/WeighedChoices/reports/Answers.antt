-- What was found out of one list more.
use Rattle.std.proofs.Common.{◌∙◌, ap, ap₂, sym, List, [], ◌∷◌, ◌++◌, map, take}
use Rattle.std.proofs.lemmas.List.{map-append, take_more}
use Rattle.tomex_config.specs.Parts.{all_parts, part_at}
use Rattle.tomex_config.specs.declared.part.Part.TheVariants.{Width}
use Rattle.tomex_study.specs.ListFindings.{ListFindings}
use Rattle.tomex_choices.specs.Reports.{report_of}
use Rattle.tomex_choices.proofs.weighing.WeighedChoices.reports.Goals as goal

pub loop-place-preserved : goal.loop-place-preserved
loop-place-preserved g c =
    let f = report_of c.args.self.now in
    let k = c.loop-place.place in
    c.in_ok-push.ensures.items
    ∙ (ap₂ (λ (ls : List ListFindings) (l : ListFindings). ls ++ l ∷ []) c.loop-place.invariant c.in_ok-report.ensures
    ∙ (sym (map-append f (take k all_parts) (part_at k ∷ []))
    ∙ ap (map f) (sym (take_more all_parts k Width c.loop-place-test.true))))
