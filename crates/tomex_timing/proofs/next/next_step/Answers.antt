-- Closed at once: searching by rules first takes long.
use Rattle.std.proofs.Common.{arith}
use Rattle.std.proofs.lemmas.Grind.{common_steps}
use Rattle.tomex_timing.proofs.next.next_step.Goals as goal

pub overflow_add-finish : goal.overflow_add-finish
overflow_add-finish = grind arith

pub returns : goal.returns
returns = grind arith

pub first_free-start-requires-clause-from : goal.first_free-start-requires-clause-from
first_free-start-requires-clause-from = grind arith

pub end_after-end-requires-clause-finish : goal.end_after-end-requires-clause-finish
end_after-end-requires-clause-finish = grind arith

pub end_after-end-requires-clause-quiet : goal.end_after-end-requires-clause-quiet
end_after-end-requires-clause-quiet = grind (arith, common_steps)

pub past_conflicts-clear-requires-clause-accesses : goal.past_conflicts-clear-requires-clause-accesses
past_conflicts-clear-requires-clause-accesses = grind (arith, common_steps)
