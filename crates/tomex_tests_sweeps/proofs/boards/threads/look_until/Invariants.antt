use Rattle.std.proofs.Common.{◌≡◌}
use Rattle.tomex_tests_sweeps.proofs.boards.threads.look_until.Given as goal

abbrev pub invariant-loop : goal.invariant-loop
invariant-loop l = l.seat.board ≡ l.initial.seat.board
