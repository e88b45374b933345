-- The text of what is needed is the study's.
use Rattle.std.proofs.Common.{arith}
use Rattle.std.proofs.lemmas.Grind.{common_steps}
use Rattle.std.proofs.lemmas.Result.{IfErr-weaker, IfOk-weaker, err_from_is_err_and}
use Rattle.tomex_views.proofs.TwoBuilds.{without_memory}
use Rattle.tomex_views.proofs.answering.survey_text.Goals as goal

pub returns-in_err-clone-clause-refused : goal.returns-in_err-clone-clause-refused
returns-in_err-clone-clause-refused g c =
    let p = err_from_is_err_and c.from_residual-in_err-clone.result c.from_residual-in_err-clone.ensures.1 in
    rw (p.1) (without_memory c.args.view c.args.study p.0 p.2)

pub returns-in_err-surveyed-clause-refused : goal.returns-in_err-surveyed-clause-refused
returns-in_err-surveyed-clause-refused g c =
    let p = err_from_is_err_and c.from_residual-in_err-surveyed.result c.from_residual-in_err-surveyed.ensures.1 in
    rw (p.1) (without_memory c.args.view c.args.study p.0 p.2)

pub returns-clause-text : goal.returns-clause-text
returns-clause-text g c =
    IfOk-weaker c.text_of_survey.result _ _
    (λ text is. c.in_ok-numbered.ensures.text text.items
    (c.needed-study.ensures.text text.items (rw c.in_ok-surveyed.ensures at is)))
    c.text_of_survey.ensures.text

pub returns-clause-refused : goal.returns-clause-refused
returns-clause-refused g c =
    IfErr-weaker c.text_of_survey.result _ _
    (λ error is. c.in_ok-numbered.ensures.without error
    (c.needed-study.ensures.refused error (rw c.in_ok-surveyed.ensures at is)))
    c.text_of_survey.ensures.refused

pub returns-then-lacks_program-clause-refused : goal.returns-then-lacks_program-clause-refused
returns-then-lacks_program-clause-refused = grind (arith, common_steps)
