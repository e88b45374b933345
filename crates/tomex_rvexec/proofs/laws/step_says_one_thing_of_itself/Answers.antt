use Rattle.tomex_rvexec.proofs.Fields.{bytes_are_some, bytes_of_memory, dest_needs_pool, store_has_no_dest}
use Rattle.tomex_rvexec.proofs.Fields.{unit_with_pool}
use Rattle.tomex_rvexec.proofs.laws.step_says_one_thing_of_itself.Goals as goal

pub returns-clause-unit : goal.returns-clause-unit
returns-clause-unit c = unit_with_pool

pub returns-clause-memory : goal.returns-clause-memory
returns-clause-memory c = bytes_of_memory

pub returns-clause-bytes : goal.returns-clause-bytes
returns-clause-bytes c = bytes_are_some

pub returns-clause-pool : goal.returns-clause-pool
returns-clause-pool c = dest_needs_pool

pub returns-clause-store : goal.returns-clause-store
returns-clause-store c = store_has_no_dest
