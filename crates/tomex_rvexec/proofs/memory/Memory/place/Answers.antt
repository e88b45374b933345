use Rattle.std.proofs.Common.{rules}
use Rattle.tomex_rvexec.proofs.memory.Memory.place.Goals as goal

pub returns-then-from-end-clause-some : goal.returns-then-from-end-clause-some
returns-then-from-end-clause-some g c = search rules fits 100
