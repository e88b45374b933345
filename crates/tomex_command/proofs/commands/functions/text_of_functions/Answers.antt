-- The report is of the configuration, the programs and the files that the study has.
use Rattle.std.proofs.Common.{inl, inr, map}
use Rattle.std.proofs.lemmas.Result.{IfErr-weaker, IfOk-weaker, err_from_is_err_and}
use Rattle.tomex_command.specs.Chosen.{choice_of}
use Rattle.tomex_command.proofs.Built.{unchosen, unreported}
use Rattle.tomex_command.proofs.Placed.{as_many_in, study_in}
use Rattle.tomex_command.proofs.commands.functions.text_of_functions.Goals as goal

pub choose-requires : goal.choose-requires
choose-requires g c = as_many_in _ _ _ (λ bytes. bytes.items) _ c.in_ok-studied.ensures.study

pub choose-requires-2 : goal.choose-requires-2
choose-requires-2 g c = as_many_in _ _ _ (λ bytes. bytes.items) _ c.in_ok-studied.ensures.study

pub returns-in_err-old-clause-failure : goal.returns-in_err-old-clause-failure
returns-in_err-old-clause-failure g c =
    let p = err_from_is_err_and c.from_residual-in_err-old.result c.from_residual-in_err-old.ensures.1 in
    rw (p.1) (unchosen _ c.args.line c.in_ok-studied.studied.study c.args.line.builds.old
    (study_in _ _ _ _ c.in_ok-studied.ensures.study) (λ failure why. inl why) _ p.0
    (rw c.run_of.ensures at c.in_err-old.ensures.unchosen) p.2)

pub returns-in_err-new-clause-failure : goal.returns-in_err-new-clause-failure
returns-in_err-new-clause-failure g c =
    let p = err_from_is_err_and c.from_residual-in_err-new.result c.from_residual-in_err-new.ensures.1 in
    rw (p.1) (unchosen _ c.args.line c.in_ok-studied.studied.study c.args.line.builds.new
    (study_in _ _ _ _ c.in_ok-studied.ensures.study) (λ failure why. inr why) _ p.0
    (rw c.run_of-2.ensures at c.in_err-new.ensures.unchosen) p.2)

pub returns-clause-text : goal.returns-clause-text
returns-clause-text g c =
    IfOk-weaker c.report_of.result _ _ (λ text shown. record {
      space = c.in_ok-studied.studied.study;
      contents = map (λ bytes. bytes.items) c.in_ok-studied.studied.files.items;
      of_files = c.in_ok-studied.ensures.study;
      old = choice_of c.in_ok-old.old;
      new = choice_of c.in_ok-new.new;
      old_chosen = rw c.run_of.ensures at c.in_ok-old.ensures.chosen;
      new_chosen = rw c.run_of-2.ensures at c.in_ok-new.ensures.chosen;
      holds = shown;
    }) c.report_of.ensures.text

pub returns-clause-failure : goal.returns-clause-failure
returns-clause-failure g c =
    IfErr-weaker c.report_of.result _ _ (λ failure why. unreported _ c.args.line failure (record {
      space = c.in_ok-studied.studied.study;
      contents = map (λ bytes. bytes.items) c.in_ok-studied.studied.files.items;
      of_files = c.in_ok-studied.ensures.study;
      old = choice_of c.in_ok-old.old;
      new = choice_of c.in_ok-new.new;
      old_chosen = rw c.run_of.ensures at c.in_ok-old.ensures.chosen;
      new_chosen = rw c.run_of-2.ensures at c.in_ok-new.ensures.chosen;
      holds = why;
    })) c.report_of.ensures.failure
