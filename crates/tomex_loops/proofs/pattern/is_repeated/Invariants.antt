-- The rounds so far are repeated.
use Rattle.std.proofs.Common.{ℕ, ◌+◌, ◌<◌, ◌≡◌, get_or}
use Rattle.tomex_loops.proofs.pattern.is_repeated.Given as goal

abbrev pub invariant-loop-k : goal.invariant-loop-k
invariant-loop-k l = (j : ℕ) → j < l.k → get_or l.cycles (j + l.period) 0 ≡ get_or l.cycles j 0
