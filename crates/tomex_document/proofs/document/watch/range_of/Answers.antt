use Rattle.std.proofs.Common.{arith}
use Rattle.std.proofs.lemmas.Grind.{common_steps}
use Rattle.tomex_document.proofs.document.watch.range_of.Goals as goal

pub returns-in_err-length-in-len2-clause-read : goal.returns-in_err-length-in-len2-clause-read
returns-in_err-length-in-len2-clause-read c = grind (arith, common_steps)

pub returns-in_ok-length-in-len2-clause-read : goal.returns-in_ok-length-in-len2-clause-read
returns-in_ok-length-in-len2-clause-read c = grind (arith, common_steps)

pub returns-in_ok-length-in-len2-clause-inside : goal.returns-in_ok-length-in-len2-clause-inside
returns-in_ok-length-in-len2-clause-inside c = grind (arith, common_steps)

pub number_of-requires-in-len2 : goal.number_of-requires-in-len2
number_of-requires-in-len2 = grind (arith, common_steps)

pub overflow_sub-size-in-len2 : goal.overflow_sub-size-in-len2
overflow_sub-size-in-len2 = grind (arith, common_steps)

pub returns-in_err-address-in-len2-clause-read : goal.returns-in_err-address-in-len2-clause-read
returns-in_err-address-in-len2-clause-read = grind (arith, common_steps)

pub overflow_sub-address : goal.overflow_sub-address
overflow_sub-address = grind (arith, common_steps)
