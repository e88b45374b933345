-- The study was read, and has no text for this reason.
use Rattle.std.proofs.lemmas.Result.{IfErr-weaker}
use Rattle.tomex_views.proofs.Unviewed.{unviewed}
use Rattle.tomex_views.proofs.answering.answer_view.Goals as goal

pub returns-clause-refused : goal.returns-clause-refused
returns-clause-refused g c =
    IfErr-weaker c.text_of.result _ _
    (λ e without. unviewed c.args.view _ _ c.in_ok-study.study e c.in_ok-study.ensures.ok without)
    c.text_of.ensures.refused
