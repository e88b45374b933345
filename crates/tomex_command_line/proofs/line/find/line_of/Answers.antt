-- If the study's name is missing, no line has it.
use Rattle.tomex_command_line.proofs.PassedOn.{passed_on}
use Rattle.tomex_command_line.proofs.line.find.line_of.Goals as goal

pub returns-in_err-study-clause-refused : goal.returns-in_err-study-clause-refused
returns-in_err-study-clause-refused c =
    passed_on _ _ _ c.from_residual.result c.from_residual.ensures.1 c.in_err-study.ensures.refused
    (λ none study choices asked. none study asked.is_study)
