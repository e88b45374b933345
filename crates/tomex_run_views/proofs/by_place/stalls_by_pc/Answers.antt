-- What was counted by address is the report by place.
use Rattle.std.proofs.Common.{◌∙◌, [], refl, subst, List, arith}
use Rattle.std.proofs.lemmas.Grind.{common_steps}
use Rattle.std.specs.Prelude.{IfOk}
use Rattle.std.proofs.lemmas.Result.{IfOk-weaker}
use Rattle.tomex_rvexec.specs.declared.step.Step.{Step}
use Rattle.tomex_run_views.specs.ByPlace.{IsReportByPlace, pc_of}
use Rattle.tomex_run_views.proofs.Reports.{report_if_made}
use Rattle.tomex_run_views.proofs.by_place.stalls_by_pc.Goals as goal

pub returns : goal.returns
returns g c =
    let text = c.text_by_place.result in
    let counted = c.in_ok-counted.ensures.counted pc_of (c.as_slice.ensures.value ∙ c.in_ok-addresses.ensures) in
    let written = IfOk-weaker text _ _ (λ t is. is (λ step. []) (λ k d within. refl)) c.text_by_place.ensures.text in
    subst (λ (ss : List Step). IfOk text (λ t. IsReportByPlace c.args.config.now ss t.items))
    c.steps-steps.ensures
    (report_if_made [] (λ step. []) c.args.config.now c.steps-steps.result.now _ counted text written
    c.text_by_place.ensures.order)

pub count_run-requires-clause-keys : goal.count_run-requires-clause-keys
count_run-requires-clause-keys = grind (arith, common_steps)
