use Rattle.tomex_rvexec.proofs.FlowHistories.{same_memory, same_registers, unread_j, unread_k, zero_after}
use Rattle.tomex_rvexec.proofs.laws.history_leaves_one_state.Goals as goal

pub returns-clause-registers : goal.returns-clause-registers
returns-clause-registers c = same_registers

pub returns-clause-memory : goal.returns-clause-memory
returns-clause-memory c = same_memory

pub returns-clause-zero : goal.returns-clause-zero
returns-clause-zero c = zero_after

pub returns-clause-j : goal.returns-clause-j
returns-clause-j c = unread_j

pub returns-clause-k : goal.returns-clause-k
returns-clause-k c = unread_k
