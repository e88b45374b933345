use Rattle.tomex_rvexec.proofs.FlowEnds.{no_end_and_fault, one_end, one_fault}
use Rattle.tomex_rvexec.proofs.laws.run_has_one_end.Goals as goal

pub returns-clause-end : goal.returns-clause-end
returns-clause-end c = one_end

pub returns-clause-fault : goal.returns-clause-fault
returns-clause-fault c = one_fault

pub returns-clause-apart : goal.returns-clause-apart
returns-clause-apart c = no_end_and_fault
