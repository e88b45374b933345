use Rattle.std.proofs.Common.{rules}
use Rattle.tomex_membuf.proofs.accesses.read.Goals as goal

pub returns-clause-value : goal.returns-clause-value
returns-clause-value g c = search rules fits 100
