use Rattle.std.proofs.Common.{arith, rules}
use Rattle.std.proofs.lemmas.Grind.{common_steps}
use Rattle.tomex_rvdec.proofs.encoding.word_of.Goals as goal

pub returns-in-Register : goal.returns-in-Register
returns-in-Register c = search rules fits 100

pub returns-in-Shift : goal.returns-in-Shift
returns-in-Shift c = grind (arith, common_steps)

pub returns-in-Store : goal.returns-in-Store
returns-in-Store c = grind (arith, common_steps)

pub returns-in-Branch : goal.returns-in-Branch
returns-in-Branch c = grind (arith, common_steps)

pub returns-in-Upper : goal.returns-in-Upper
returns-in-Upper c = grind (arith, common_steps)

pub returns-in-Jump : goal.returns-in-Jump
returns-in-Jump c = grind (arith, common_steps)

pub returns-in-Immediate : goal.returns-in-Immediate
returns-in-Immediate c = grind (arith, common_steps)

pub six_fields-requires-in-Branch-clause-high : goal.six_fields-requires-in-Branch-clause-high
six_fields-requires-in-Branch-clause-high = grind (arith, common_steps)

pub six_fields-requires-in-Jump-clause-high : goal.six_fields-requires-in-Jump-clause-high
six_fields-requires-in-Jump-clause-high = grind (arith, common_steps)

pub six_fields-requires-in-Branch-clause-low : goal.six_fields-requires-in-Branch-clause-low
six_fields-requires-in-Branch-clause-low = grind (arith, common_steps)
