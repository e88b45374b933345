use Rattle.std.proofs.Common.{rules, arith}
use Rattle.std.proofs.lemmas.Grind.{common_steps}
use Rattle.tomex_tags.proofs.issuing.issue.Goals as goal

pub returns-clause-slots : goal.returns-clause-slots
returns-clause-slots c = search rules fits 100

pub returns-clause-status : goal.returns-clause-status
returns-clause-status c = search rules fits 100

pub take-dest-requires-clause-own : goal.take-dest-requires-clause-own
take-dest-requires-clause-own = grind (arith, common_steps)
