use Rattle.std.proofs.Common.{◌≡◌}
use Rattle.tomex_samples.specs.Leaders.{in_order}
use Rattle.tomex_samples.proofs.leaders.in_order.Given as goal

abbrev pub invariant-loop-k : goal.invariant-loop-k
invariant-loop-k g l = l.ordered.items ≡ in_order l.k-counter l.numbers
