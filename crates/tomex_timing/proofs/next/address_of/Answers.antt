use Rattle.std.proofs.Common.{rules}
use Rattle.tomex_timing.proofs.next.address_of.Goals as goal

pub returns-in-Some-Load-clause-cycle : goal.returns-in-Some-Load-clause-cycle
returns-in-Some-Load-clause-cycle c = search rules fits 100
