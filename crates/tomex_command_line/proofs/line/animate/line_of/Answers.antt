-- If a value is missing or out of bounds, no line has it.
use Rattle.std.proofs.Common.{rules, arith}
use Rattle.std.proofs.lemmas.Grind.{common_steps}
use Rattle.tomex_command_line.proofs.PassedOn.{passed_on}
use Rattle.tomex_command_line.proofs.line.animate.line_of.Goals as goal

pub invariant_of-result : goal.invariant_of-result
invariant_of-result c = search rules fits 100

pub returns-in_err-one_run_of-clause-refused : goal.returns-in_err-one_run_of-clause-refused
returns-in_err-one_run_of-clause-refused c =
    passed_on _ _ _ c.from_residual.result c.from_residual.ensures.1 c.in_err-one_run_of.ensures.refused
    (λ none study config program from cycles blank asked. none study config program asked.of_run)

pub returns-in_err-number_of-clause-refused : goal.returns-in_err-number_of-clause-refused
returns-in_err-number_of-clause-refused c =
    passed_on _ _ _ c.from_residual-in_err-number_of.result c.from_residual-in_err-number_of.ensures.1
    c.in_err-number_of.ensures.refused
    (λ none study config program from cycles blank asked. none from asked.is_from)

pub returns-in_err-number_of-2-clause-refused : goal.returns-in_err-number_of-2-clause-refused
returns-in_err-number_of-2-clause-refused c =
    passed_on _ _ _ c.from_residual-in_err-number_of-2.result c.from_residual-in_err-number_of-2.ensures.1
    c.in_err-number_of-2.ensures.refused
    (λ none study config program from cycles blank asked. none cycles asked.is_cycles)

pub returns-clause-line : goal.returns-clause-line
returns-clause-line = grind (arith, common_steps)
