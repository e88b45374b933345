-- The refusal of the choices is the failure.
use Rattle.std.proofs.lemmas.Result.{err_from_is_err_and}
use Rattle.tomex_command.proofs.Found.{not_found}
use Rattle.tomex_command.proofs.commands.find.text_of_find.Goals as goal

pub returns-in_err-find_table-clause-failure : goal.returns-in_err-find_table-clause-failure
returns-in_err-find_table-clause-failure g c =
    let p = err_from_is_err_and c.from_residual-in_err-find_table.result c.from_residual-in_err-find_table.ensures.1
    in
    let refusal = rw c.as_slice.ensures.value at c.in_err-find_table.ensures.refused in
    rw (p.1) (not_found (g.F.Files.file c.args.files.now) c.args.line c.in_ok-study.study _ _
    c.in_ok-study.ensures.study refusal p.2)
