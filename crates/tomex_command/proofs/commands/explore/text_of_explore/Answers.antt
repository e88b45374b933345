-- The refusal of a study is the failure.
use Rattle.std.proofs.lemmas.Result.{err_from_is_err_and}
use Rattle.tomex_command.proofs.Fronts.{explore_refused}
use Rattle.tomex_command.proofs.commands.explore.text_of_explore.Goals as goal

pub returns-in_err-report-clause-failure : goal.returns-in_err-report-clause-failure
returns-in_err-report-clause-failure g c =
    let p = err_from_is_err_and c.from_residual-in_err-report.result c.from_residual-in_err-report.ensures.1 in
    let refusal = rw (c.as_slice-study.ensures.value, c.as_slice-contents.ensures.value) at c.in_err-report.ensures.err
    in
    rw (p.1) (explore_refused (g.F.Files.file c.args.files.now) c.args.line.study.now _ _ _ p.0
    c.in_ok-sources.ensures.read refusal p.2)
