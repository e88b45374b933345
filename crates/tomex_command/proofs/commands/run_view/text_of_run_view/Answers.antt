-- What is shown is of the configuration, the program and the file that the study has.
use Rattle.std.proofs.Common.{map}
use Rattle.std.proofs.lemmas.Result.{IfErr-weaker, IfOk-weaker, err_from_is_err_and}
use Rattle.tomex_command.specs.Chosen.{choice_of}
use Rattle.tomex_command.proofs.Placed.{as_many_in, study_in}
use Rattle.tomex_command.proofs.Shown.{not_shown, unchosen}
use Rattle.tomex_command.proofs.commands.run_view.text_of_run_view.Goals as goal

pub choose-requires : goal.choose-requires
choose-requires g c = as_many_in _ _ _ (λ bytes. bytes.items) _ c.in_ok-studied.ensures.study

pub returns-in_err-chosen-clause-failure : goal.returns-in_err-chosen-clause-failure
returns-in_err-chosen-clause-failure g c =
    let p = err_from_is_err_and c.from_residual-in_err-chosen.result c.from_residual-in_err-chosen.ensures.1 in
    rw (p.1) (unchosen _ c.args.view c.in_ok-studied.studied.study
    (study_in _ _ _ _ (rw c.run_of-run.ensures at c.in_ok-studied.ensures.study)) _ p.0
    (rw c.run_of-run.ensures at c.in_err-chosen.ensures.unchosen) p.2)

pub returns-clause-text : goal.returns-clause-text
returns-clause-text g c =
    IfOk-weaker c.shown.result _ _ (λ text shown. record {
      space = c.in_ok-studied.studied.study;
      contents = map (λ bytes. bytes.items) c.in_ok-studied.studied.files.items;
      of_files = rw c.run_of-run.ensures at c.in_ok-studied.ensures.study;
      choice = choice_of c.in_ok-chosen.chosen;
      chosen = rw c.run_of-run.ensures at c.in_ok-chosen.ensures.chosen;
      holds = shown;
    }) c.shown.ensures.text

pub returns-clause-failure : goal.returns-clause-failure
returns-clause-failure g c =
    IfErr-weaker c.shown.result _ _ (λ failure why. not_shown _ c.args.view failure (record {
      space = c.in_ok-studied.studied.study;
      contents = map (λ bytes. bytes.items) c.in_ok-studied.studied.files.items;
      of_files = rw c.run_of-run.ensures at c.in_ok-studied.ensures.study;
      choice = choice_of c.in_ok-chosen.chosen;
      chosen = rw c.run_of-run.ensures at c.in_ok-chosen.ensures.chosen;
      holds = why;
    })) c.shown.ensures.failure
