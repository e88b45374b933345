-- Closed at once: searching by rules first takes long.
use Rattle.std.proofs.Common.{arith}
use Rattle.std.proofs.lemmas.Grind.{common_steps}
use Rattle.tomex_reservations.proofs.reservation_table.ReservationTable.copy_from.Goals as goal

pub returns-else-past-len-clause-same : goal.returns-else-past-len-clause-same
returns-else-past-len-clause-same = grind (arith, common_steps)
