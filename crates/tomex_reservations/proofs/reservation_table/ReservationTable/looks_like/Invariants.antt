-- So far the lines are equal.
use Rattle.std.proofs.Common.{◌≡◌, ℕ, ◌+◌, ◌<◌}
use Rattle.tomex_reservations.specs.Reservations.{slot_at}
use Rattle.tomex_reservations.proofs.reservation_table.ReservationTable.looks_like.Given as goal

abbrev pub invariant-loop-later : goal.invariant-loop-later
invariant-loop-later g l =
    (t : ℕ) → 0 < t → t < l.later → slot_at l.self (l.here + t) ≡ slot_at l.other (l.there + t)
