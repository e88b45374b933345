use Rattle.std.proofs.Common.{rules}
use Rattle.tomex_rvexec.proofs.operation.alu_result.Goals as goal

pub returns-in-Jal : goal.returns-in-Jal
returns-in-Jal c = search rules fits 100
