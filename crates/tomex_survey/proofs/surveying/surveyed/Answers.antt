-- The rows that are sorted are all rows: they are numbered, and their front is the study's.
use Rattle.std.proofs.Common.{◌∙◌, ap, List, ◌++◌}
use Rattle.tomex_pareto.specs.declared.front_row.FrontRow.{FrontRow}
use Rattle.tomex_study.proofs.StudyFronts.{front_is_of_study, rows_are_numbered}
use Rattle.tomex_survey.proofs.surveying.surveyed.Goals as goal

pub front-requires : goal.front-requires
front-requires g c =
    rows_are_numbered c.args.study.now (c.in_ok-extend_from_slice.ensures.items
    ∙ (ap (λ (rs : List FrontRow). rs ++ c.as_slice-2.result.now) c.in_ok-sorted.ensures.items
    ∙ (c.as_slice-2.ensures.value ∙ c.in_ok-rows.ensures)))

pub new-requires-clause-front : goal.new-requires-clause-front
new-requires-clause-front g c =
    front_is_of_study c.args.study.now (c.in_ok-extend_from_slice.ensures.items
    ∙ (ap (λ (rs : List FrontRow). rs ++ c.as_slice-2.result.now) c.in_ok-sorted.ensures.items
    ∙ (c.as_slice-2.ensures.value ∙ c.in_ok-rows.ensures)))
    c.in_ok-front.ensures
