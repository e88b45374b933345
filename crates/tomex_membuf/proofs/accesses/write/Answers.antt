use Rattle.std.proofs.Common.{rules}
use Rattle.tomex_membuf.proofs.accesses.write.Goals as goal

pub returns : goal.returns
returns g c = search rules fits 100
