-- A number of 32 bits is refused as the same one of 64 bits is.
use Rattle.std.proofs.Common.{arith}
use Rattle.std.proofs.lemmas.Grind.{common_steps}
use Rattle.std.proofs.lemmas.Result.{err_from_is_err_and}
use Rattle.tomex_arguments.proofs.values.number_of.Goals as goal

pub returns-in_err-long_number_of-clause-refused : goal.returns-in_err-long_number_of-clause-refused
returns-in_err-long_number_of-clause-refused c =
    let p = err_from_is_err_and c.from_residual.result c.from_residual.ensures.1 in
    let refused = rw (c.from.ensures, c.from-2.ensures) at c.in_err-long_number_of.ensures.refused in
    rw (p.1, p.2) refused

pub returns-clause-number : goal.returns-clause-number
returns-clause-number = grind (arith, common_steps)
