-- If a value is missing or out of bounds, no line has it.
use Rattle.std.proofs.Common.{rules, arith}
use Rattle.std.proofs.lemmas.Grind.{common_steps}
use Rattle.tomex_command_line.proofs.PassedOn.{passed_on}
use Rattle.tomex_command_line.proofs.line.image.image_of.Goals as goal

pub invariant_of-result : goal.invariant_of-result
invariant_of-result c = search rules fits 100

pub returns-in_err-number_of-clause-refused : goal.returns-in_err-number_of-clause-refused
returns-in_err-number_of-clause-refused c =
    passed_on _ _ _ c.from_residual-in_err-number_of.result c.from_residual-in_err-number_of.ensures.1
    c.in_err-number_of.ensures.refused
    (λ none image base size asked. none base asked.is_base)

pub returns-in_err-number_of-2-clause-refused : goal.returns-in_err-number_of-2-clause-refused
returns-in_err-number_of-2-clause-refused c =
    passed_on _ _ _ c.from_residual-in_err-number_of-2.result c.from_residual-in_err-number_of-2.ensures.1
    c.in_err-number_of-2.ensures.refused
    (λ none image base size asked. none size asked.is_size)

pub returns-clause-image : goal.returns-clause-image
returns-clause-image = grind (arith, common_steps)
