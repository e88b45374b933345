use Rattle.std.proofs.Common.{arith}
use Rattle.std.proofs.lemmas.Grind.{common_steps}
use Rattle.tomex_config.proofs.config.Config.new.Goals as goal

pub invariant_of-result : goal.invariant_of-result
invariant_of-result c = grind (arith, common_steps)

pub returns-then-are_rest-clause-lawful : goal.returns-then-are_rest-clause-lawful
returns-then-are_rest-clause-lawful c = grind (arith, common_steps)

pub returns-else-are_stations-clause-lawful : goal.returns-else-are_stations-clause-lawful
returns-else-are_stations-clause-lawful c = grind (arith, common_steps)
