use Rattle.std.proofs.Common.{Some}
use Rattle.tomex_tags.specs.Operands.{only}
use Rattle.tomex_tags.proofs.Hearing.{AreHearing}
use Rattle.tomex_tags.proofs.pools.Pools.hear.Given as goal

-- all except the rest have received it
abbrev pub invariant-members : goal.invariant-members
invariant-members l = AreHearing (only l.from (Some l.value)) l.rest l.fn.self l.self

abbrev pub decreases-members : goal.decreases-members
decreases-members l = l.rest
