use Rattle.std.proofs.Common.{rules}
use Rattle.tomex_timing.proofs.next.issue_from.Goals as goal

pub returns-clause-from : goal.returns-clause-from
returns-clause-from c = search rules fits 100
