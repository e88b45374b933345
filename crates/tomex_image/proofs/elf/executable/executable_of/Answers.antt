-- All headers that take memory fit, since the tests pass.
use Rattle.std.proofs.Common.{rules, arith}
use Rattle.std.proofs.lemmas.Grind.{common_steps}
use Rattle.tomex_image.proofs.Refusals.{all_fit, passes_at}
use Rattle.tomex_image.proofs.elf.executable.executable_of.Goals as goal

pub returns-clause-fit : goal.returns-clause-fit
returns-clause-fit c = search (rules, passes_at, all_fit)

pub returns-in-Some-clause-err : goal.returns-in-Some-clause-err
returns-in-Some-clause-err = grind (arith, common_steps)
