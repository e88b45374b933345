use Rattle.tomex_rvexec.proofs.FlowRuns.{same_result}
use Rattle.tomex_rvexec.proofs.FlowSteps.{changes}
use Rattle.tomex_rvexec.proofs.FlowStates.{allowed, state_kept}
use Rattle.tomex_rvexec.proofs.laws.step_changes_its_destination_and_bytes.Goals as goal

pub returns-clause-changes : goal.returns-clause-changes
returns-clause-changes c = changes

pub returns-clause-allowed : goal.returns-clause-allowed
returns-clause-allowed c = allowed

pub returns-clause-state : goal.returns-clause-state
returns-clause-state c = state_kept

pub returns-clause-result : goal.returns-clause-result
returns-clause-result c = same_result
