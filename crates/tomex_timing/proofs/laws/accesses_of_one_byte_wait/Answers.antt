-- The test for a start requires it.
use Rattle.tomex_timing.proofs.Orders.{conflict_at, start_clear}
use Rattle.tomex_timing.proofs.laws.accesses_of_one_byte_wait.Goals as goal

pub returns : goal.returns
returns c = record { conflict = conflict_at; wait = start_clear }
