use Rattle.std.proofs.Common.{rules, arith}
use Rattle.std.proofs.lemmas.Grind.{common_steps}
use Rattle.tomex_rvdec.proofs.display.InstrDisplay.fmt.Goals as goal

pub returns-in-Store-clause-writes : goal.returns-in-Store-clause-writes
returns-in-Store-clause-writes g c = search rules fits 100

pub returns-in-Register-clause-writes : goal.returns-in-Register-clause-writes
returns-in-Register-clause-writes = grind (arith, common_steps)

pub returns-in-Shift-clause-writes : goal.returns-in-Shift-clause-writes
returns-in-Shift-clause-writes = grind (arith, common_steps)

pub returns-in-Upper-clause-writes : goal.returns-in-Upper-clause-writes
returns-in-Upper-clause-writes = grind (arith, common_steps)

pub returns-in-Jump-clause-writes : goal.returns-in-Jump-clause-writes
returns-in-Jump-clause-writes = grind (arith, common_steps)

pub returns-in-Offset-clause-writes : goal.returns-in-Offset-clause-writes
returns-in-Offset-clause-writes = grind (arith, common_steps)

pub returns-in-Branch-clause-writes : goal.returns-in-Branch-clause-writes
returns-in-Branch-clause-writes = grind (arith, common_steps)
