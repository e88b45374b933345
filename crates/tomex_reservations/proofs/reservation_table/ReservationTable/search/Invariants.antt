-- From the first cycle on none was left.
use Rattle.std.proofs.Common.{◌+◌, ◌-◌}
use Rattle.std.specs.Prelude.{max}
use Rattle.tomex_reservations.specs.Reservations.{is_left}
use Rattle.tomex_reservations.proofs.Searching.{IsSearching}
use Rattle.tomex_reservations.proofs.reservation_table.ReservationTable.search.Given as goal

abbrev pub invariant-loop-line : goal.invariant-loop-line
invariant-loop-line g l = IsSearching (is_left l.self l.line l.capacity) l.from l.cycle (max l.from (l.last_taken + 1))

abbrev pub decreases-loop-line : goal.decreases-loop-line
decreases-loop-line g l = max l.from (l.last_taken + 1) - l.cycle
