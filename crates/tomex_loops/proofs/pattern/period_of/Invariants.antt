-- No smaller number of rounds is a period.
use Rattle.std.proofs.Common.{ℕ, ◌<◌}
use Rattle.tomex_loops.specs.Pattern.{IsPeriod}
use Rattle.tomex_loops.proofs.pattern.period_of.Given as goal

abbrev pub invariant-loop-period : goal.invariant-loop-period
invariant-loop-period l = (q : ℕ) → q < l.period → IsPeriod q l.cycles → ⊥
