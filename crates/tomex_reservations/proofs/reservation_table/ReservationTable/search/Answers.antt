-- Past the bound one is left, so the search ends.
use Rattle.std.proofs.Common.{rules, ◌≡◌, ◌+◌, true, false, arith}
use Rattle.std.specs.Prelude.{max}
use Rattle.tomex_reservations.specs.Reservations.{is_left}
use Rattle.tomex_reservations.proofs.Searching.{found}
use Rattle.tomex_reservations.proofs.Reserving.{left_on}
use Rattle.tomex_reservations.proofs.reservation_table.ReservationTable.search.Goals as goal

pub loop-line-smaller : goal.loop-line-smaller
loop-line-smaller g c =
    let fails : is_left c.args.self.now c.args.line c.args.capacity c.loop-line.cycle ≡ false = search rules in
    let on = left_on c.args.self.now c.args.line c.args.capacity c.args.from c.loop-line.cycle c.args.last_taken
    c.requires.capacity c.requires.quiet c.loop-line.invariant fails in
    omega (arith, on.by)

pub loop-line-preserved : goal.loop-line-preserved
loop-line-preserved g c =
    let fails : is_left c.args.self.now c.args.line c.args.capacity c.loop-line.cycle ≡ false = search rules in
    left_on c.args.self.now c.args.line c.args.capacity c.args.from c.loop-line.cycle c.args.last_taken
    c.requires.capacity c.requires.quiet c.loop-line.invariant fails

pub returns-then-taken-capacity-clause-first : goal.returns-then-taken-capacity-clause-first
returns-then-taken-capacity-clause-first g c =
    let here : is_left c.args.self.now c.args.line c.args.capacity c.loop-line.cycle ≡ true = search rules in
    found (is_left c.args.self.now c.args.line c.args.capacity) c.args.from c.loop-line.cycle
    (max c.args.from (c.args.last_taken + 1)) c.loop-line.invariant here
