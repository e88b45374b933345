-- Closed at once: searching by rules first takes long.
use Rattle.std.proofs.Common.{arith}
use Rattle.std.proofs.lemmas.Grind.{common_steps}
use Rattle.tomex_prices.proofs.records.prices_csv.Goals as goal

pub returns-clause-large : goal.returns-clause-large
returns-clause-large = grind (arith, common_steps)

pub returns-then-is_too_large-clause-large : goal.returns-then-is_too_large-clause-large
returns-then-is_too_large-clause-large = grind (arith, common_steps)
