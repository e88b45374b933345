-- Only an access is left to keep.
use Rattle.std.proofs.Common.{arith}
use Rattle.std.proofs.lemmas.Grind.{common_steps}
use Rattle.tomex_timing.proofs.asking.ask_operation.Goals as goal

pub returns-clause-held : goal.returns-clause-held
returns-clause-held g c = record {
  latest = c.in_ok-next.ensures.latest;
  table = c.in_ok-next.ensures.table;
  ends = c.in_ok-next.ensures.stations;
  accesses = rw c.in_ok-next.ensures.accesses at c.in_ok-keep_access.ensures;
}

pub returns-clause-next : goal.returns-clause-next
returns-clause-next = grind (arith, common_steps)

pub address_after-address-requires-clause-issue : goal.address_after-address-requires-clause-issue
address_after-address-requires-clause-issue = grind arith

pub returns-in_default-clause-noted : goal.returns-in_default-clause-noted
returns-in_default-clause-noted = grind arith

pub run_issued-requires-2-clause-settled : goal.run_issued-requires-2-clause-settled
run_issued-requires-2-clause-settled = grind (arith, common_steps)

pub run_issued-requires-clause-issue : goal.run_issued-requires-clause-issue
run_issued-requires-clause-issue = grind arith

pub run_issued-requires-clause-settled : goal.run_issued-requires-clause-settled
run_issued-requires-clause-settled = grind (arith, common_steps)
