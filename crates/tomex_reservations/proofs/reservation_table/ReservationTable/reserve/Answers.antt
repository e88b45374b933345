-- Closed at once: searching by rules first takes long.
use Rattle.std.proofs.Common.{arith}
use Rattle.std.proofs.lemmas.Grind.{common_steps}
use Rattle.tomex_reservations.proofs.reservation_table.ReservationTable.reserve.Goals as goal

pub overflow_add-taken : goal.overflow_add-taken
overflow_add-taken = grind (arith, common_steps)
