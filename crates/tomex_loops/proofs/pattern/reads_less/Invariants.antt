-- The numbers so far are equal.
use Rattle.std.proofs.Common.{◌≡◌, drop}
use Rattle.tomex_loops.specs.Pattern.{reads_less, turn}
use Rattle.tomex_loops.proofs.pattern.reads_less.Given as goal

abbrev pub invariant-loop-k : goal.invariant-loop-k
invariant-loop-k l = reads_less (turn l.a l.numbers) (turn l.b l.numbers)
    ≡ reads_less (drop l.k (turn l.a l.numbers)) (drop l.k (turn l.b l.numbers))
