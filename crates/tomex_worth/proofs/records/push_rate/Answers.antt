-- Closed at once: searching by rules first takes long.
use Rattle.std.proofs.Common.{arith}
use Rattle.std.proofs.lemmas.Grind.{common_steps}
use Rattle.tomex_worth.proofs.records.push_rate.Goals as goal

pub returns-in_ok-rate_text-in-Trade : goal.returns-in_ok-rate_text-in-Trade
returns-in_ok-rate_text-in-Trade = grind (arith, common_steps)
