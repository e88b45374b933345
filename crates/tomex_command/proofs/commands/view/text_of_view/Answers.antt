-- The refusal of a view is the failure.
use Rattle.std.proofs.lemmas.Result.{err_from_is_err_and}
use Rattle.tomex_command.proofs.Views.{view_refused}
use Rattle.tomex_command.proofs.commands.view.text_of_view.Goals as goal

pub returns-in_err-text-clause-failure : goal.returns-in_err-text-clause-failure
returns-in_err-text-clause-failure g c =
    let p = err_from_is_err_and c.from_residual-in_err-text.result c.from_residual-in_err-text.ensures.1 in
    let refusal =
    rw (c.as_slice-study.ensures.value, c.as_slice-contents.ensures.value) at c.in_err-text.ensures.refused
    in
    rw (p.1) (view_refused c.args.view (g.F.Files.file c.args.files.now) c.args.line.study.now _ _ _ p.0
    c.in_ok-sources.ensures.read refusal p.2)
