-- Closed at once: searching by rules first takes long.
use Rattle.std.proofs.Common.{arith}
use Rattle.std.proofs.lemmas.Grind.{common_steps}
use Rattle.tomex_stretches.proofs.accounts.accounts_of.Goals as goal

pub floors_of-requires-clause-stretches : goal.floors_of-requires-clause-stretches
floors_of-requires-clause-stretches = grind (arith, common_steps)

pub sums_by_key-requires-clause-pairs : goal.sums_by_key-requires-clause-pairs
sums_by_key-requires-clause-pairs = grind (arith, common_steps)

pub sums_by_key-requires-clause-few : goal.sums_by_key-requires-clause-few
sums_by_key-requires-clause-few = grind (arith, common_steps)

pub returns-clause-floor : goal.returns-clause-floor
returns-clause-floor = grind (arith, common_steps)

pub returns-clause-own : goal.returns-clause-own
returns-clause-own = grind (arith, common_steps)

pub sums_by_key-requires-2-clause-few : goal.sums_by_key-requires-2-clause-few
sums_by_key-requires-2-clause-few = grind (arith, common_steps)
