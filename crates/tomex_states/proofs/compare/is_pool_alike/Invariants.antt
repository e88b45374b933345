-- So far the stations are free in the same cycles.
use Rattle.tomex_states.specs.Reuse.{IsPoolAlike}
use Rattle.tomex_states.proofs.compare.is_pool_alike.Given as goal

abbrev pub invariant-loop-number : goal.invariant-loop-number
invariant-loop-number l = IsPoolAlike l.number l.pool l.here l.there l.one.ends l.other.ends
