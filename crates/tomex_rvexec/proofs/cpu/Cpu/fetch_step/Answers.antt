use Rattle.std.proofs.Common.{rules}
use Rattle.tomex_rvexec.proofs.cpu.Cpu.fetch_step.Goals as goal

pub returns-clause-ok : goal.returns-clause-ok
returns-clause-ok g c = search rules fits 100
