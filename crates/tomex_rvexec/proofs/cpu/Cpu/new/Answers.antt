use Rattle.std.proofs.Common.{rules, arith}
use Rattle.std.proofs.lemmas.Grind.{common_steps}
use Rattle.tomex_rvexec.proofs.cpu.Cpu.new.Goals as goal

pub returns : goal.returns
returns g c = search rules fits 100

pub invariant_of-result : goal.invariant_of-result
invariant_of-result = grind (arith, common_steps)
