-- Addresses rise as the sort leaves them.
use Rattle.std.proofs.Common.{arith}
use Rattle.std.proofs.lemmas.Grind.{common_steps}
use Rattle.std.proofs.lemmas.List.Sorted.{IsNonDecreasingBy-from_sort}
use Rattle.tomex_functions.proofs.index.sorted_addresses.Goals as goal

pub returns-clause-order : goal.returns-clause-order
returns-clause-order g c =
    IsNonDecreasingBy-from_sort (λ n. n) c.sort_unstable.new.self.items c.sort_unstable.ensures.sorted

pub returns-clause-those : goal.returns-clause-those
returns-clause-those = grind (arith, common_steps)

pub loop-step-preserved : goal.loop-step-preserved
loop-step-preserved = grind (arith, common_steps)
