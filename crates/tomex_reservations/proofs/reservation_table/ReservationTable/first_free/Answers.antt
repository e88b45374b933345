-- If one is left at once, that cycle is the first.
use Rattle.std.proofs.Common.{rules, ◌≡◌, true}
use Rattle.tomex_reservations.specs.Reservations.{is_left}
use Rattle.tomex_reservations.proofs.Searching.{first_here}
use Rattle.tomex_reservations.proofs.reservation_table.ReservationTable.first_free.Goals as goal

pub returns-then-taken-capacity-clause-first : goal.returns-then-taken-capacity-clause-first
returns-then-taken-capacity-clause-first g c =
    let here : is_left c.args.self.now c.args.line c.args.capacity c.args.from ≡ true = search rules in
    first_here (is_left c.args.self.now c.args.line c.args.capacity) c.args.from here
