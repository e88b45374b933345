use Rattle.tomex_rvexec.proofs.FlowStates.{by_end, end_writes_no_byte, end_writes_no_register, ends_by, step_ends}
use Rattle.tomex_rvexec.proofs.FlowStates.{step_goes}
use Rattle.tomex_rvexec.proofs.laws.step_is_of_an_instruction.Goals as goal

pub returns-clause-goes : goal.returns-clause-goes
returns-clause-goes c = step_goes

pub returns-clause-ends : goal.returns-clause-ends
returns-clause-ends c = step_ends

pub returns-clause-kind : goal.returns-clause-kind
returns-clause-kind c = ends_by

pub returns-clause-end : goal.returns-clause-end
returns-clause-end c = by_end

pub returns-clause-dest : goal.returns-clause-dest
returns-clause-dest c = end_writes_no_register

pub returns-clause-store : goal.returns-clause-store
returns-clause-store c = end_writes_no_byte
