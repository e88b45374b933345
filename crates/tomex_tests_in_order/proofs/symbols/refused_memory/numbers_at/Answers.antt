-- Addresses that were found sorted rise.
use Rattle.std.proofs.lemmas.List.Sorted.{non_decreasing_from_is_sorted}
use Rattle.tomex_tests_in_order.proofs.symbols.refused_memory.numbers_at.Goals as goal

pub functions_at-requires-clause-rise : goal.functions_at-requires-clause-rise
functions_at-requires-clause-rise c =
    rw c.if-is_sorted.true at
    (non_decreasing_from_is_sorted c.args.addresses.now c.is_sorted.result c.is_sorted.ensures.cases)
