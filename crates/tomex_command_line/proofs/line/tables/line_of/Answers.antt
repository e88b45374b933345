-- If a value is missing or out of bounds, no line has it.
use Rattle.std.proofs.Common.{arith}
use Rattle.std.proofs.lemmas.Grind.{common_steps}
use Rattle.tomex_command_line.proofs.PassedOn.{passed_on}
use Rattle.tomex_command_line.proofs.line.tables.line_of.Goals as goal

pub returns-in_err-one_run_of-clause-refused : goal.returns-in_err-one_run_of-clause-refused
returns-in_err-one_run_of-clause-refused c =
    passed_on _ _ _ c.from_residual.result c.from_residual.ensures.1 c.in_err-one_run_of.ensures.refused
    (λ none study config program cycle asked. none study config program asked.of_run)

pub returns-in_err-number_of-clause-refused : goal.returns-in_err-number_of-clause-refused
returns-in_err-number_of-clause-refused c =
    passed_on _ _ _ c.from_residual-in_err-number_of.result c.from_residual-in_err-number_of.ensures.1
    c.in_err-number_of.ensures.refused
    (λ none study config program cycle asked. none cycle asked.is_cycle)

pub returns-clause-line : goal.returns-clause-line
returns-clause-line = grind (arith, common_steps)
