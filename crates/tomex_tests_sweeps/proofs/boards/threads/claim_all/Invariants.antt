use Rattle.std.proofs.Common.{◌≡◌}
use Rattle.tomex_tests_sweeps.proofs.boards.threads.claim_all.Given as goal

abbrev pub invariant-loop-k : goal.invariant-loop-k
invariant-loop-k g l = l.seat.board ≡ l.initial.seat.board
