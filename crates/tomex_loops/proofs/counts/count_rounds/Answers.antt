-- A sort only moves the numbers, and none of the counts depends on where they stand.
use Rattle.std.proofs.lemmas.List.Sorted.{IsNonDecreasingBy-from_sort}
use Rattle.tomex_loops.proofs.Moved.{counts_moved}
use Rattle.tomex_loops.proofs.counts.count_rounds.Goals as goal

pub counts_of-requires-clause-order : goal.counts_of-requires-clause-order
counts_of-requires-clause-order c =
    IsNonDecreasingBy-from_sort (λ x. x) c.sort_unstable.new.self c.sort_unstable.ensures.sorted

pub returns : goal.returns
returns c = counts_moved c.args.cycles.now c.sort_unstable.new.self c.counts_of.result
    c.sort_unstable.ensures.permutation c.counts_of.ensures
