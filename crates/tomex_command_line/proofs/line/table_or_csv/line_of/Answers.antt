-- If a value is missing or out of bounds, no line has it.
use Rattle.std.proofs.Common.{arith}
use Rattle.std.proofs.lemmas.Grind.{common_steps}
use Rattle.tomex_command_line.proofs.PassedOn.{passed_on}
use Rattle.tomex_command_line.proofs.line.table_or_csv.line_of.Goals as goal

pub returns-in_err-line_of-clause-refused : goal.returns-in_err-line_of-clause-refused
returns-in_err-line_of-clause-refused c =
    passed_on _ _ _ c.from_residual.result c.from_residual.ensures.1 c.in_err-line_of.ensures.refused
    (λ none study workers csv asked. none study workers asked.of_study)

pub returns-clause-line : goal.returns-clause-line
returns-clause-line = grind (arith, common_steps)
