-- One more row is tried.
use Rattle.std.proofs.Common.{◌∙◌, ap, refl}
use Rattle.tomex_workers.proofs.Closing.{continues_itself, continues_on}
use Rattle.tomex_workers.proofs.desk.Desk.try_taken.Goals as goal

pub loop-init : goal.loop-init
loop-init g c = record { programs = refl; lane = refl; seat = continues_itself _; hand = c.requires.hand }

pub try_row-requires-clause-programs : goal.try_row-requires-clause-programs
try_row-requires-clause-programs g c =
    c.loop.invariant.programs ∙ c.requires.programs

pub try_row-requires-clause-board : goal.try_row-requires-clause-board
try_row-requires-clause-board g c = c.loop.invariant.seat.board ∙ c.requires.board

pub try_row-requires-clause-hand : goal.try_row-requires-clause-hand
try_row-requires-clause-hand g c = c.loop.invariant.hand

pub returns-in_default-clause-seat : goal.returns-in_default-clause-seat
returns-in_default-clause-seat g c = c.loop.invariant.seat

pub returns-in_default-clause-programs : goal.returns-in_default-clause-programs
returns-in_default-clause-programs g c = c.loop.invariant.programs

pub returns-in_err-try_row-clause-seat : goal.returns-in_err-try_row-clause-seat
returns-in_err-try_row-clause-seat g c = continues_on _ _ _ c.loop.invariant.seat c.try_row.ensures.seat

pub returns-in_err-try_row-clause-programs : goal.returns-in_err-try_row-clause-programs
returns-in_err-try_row-clause-programs g c = c.try_row.ensures.programs ∙ c.loop.invariant.programs

pub returns-clause-seat : goal.returns-clause-seat
returns-clause-seat g c = c.loop.invariant.seat
