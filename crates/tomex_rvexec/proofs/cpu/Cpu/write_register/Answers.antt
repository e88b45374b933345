use Rattle.std.proofs.Common.{rules}
use Rattle.tomex_rvexec.proofs.cpu.Cpu.write_register.Goals as goal

pub invariant_of-self : goal.invariant_of-self
invariant_of-self g c = search rules fits 100
