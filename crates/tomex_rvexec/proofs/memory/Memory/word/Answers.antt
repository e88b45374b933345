use Rattle.std.proofs.Common.{rules}
use Rattle.tomex_rvexec.proofs.memory.Memory.word.Goals as goal

pub returns : goal.returns
returns g c = search rules fits 100
