-- A value that isn't there, or is out of bounds, is one that no line has.
use Rattle.tomex_command_line.proofs.PassedOn.{passed_on}
use Rattle.tomex_command_line.proofs.line.path.line_of.Goals as goal

pub returns-in_err-one_run_of-clause-refused : goal.returns-in_err-one_run_of-clause-refused
returns-in_err-one_run_of-clause-refused c =
    passed_on _ _ _ c.from_residual.result c.from_residual.ensures.1 c.in_err-one_run_of.ensures.refused
    (λ none study config program links by_pc by_function asked. none study config program asked.of_run)
