use Rattle.tomex_rvexec.proofs.FlowEnds.{leads_before, leads_is, leads_once, steps_are}
use Rattle.tomex_rvexec.proofs.laws.run_has_one_state_a_step.Goals as goal

pub returns-clause-once : goal.returns-clause-once
returns-clause-once c = leads_once

pub returns-clause-after : goal.returns-clause-after
returns-clause-after c = leads_is

pub returns-clause-before : goal.returns-clause-before
returns-clause-before c = leads_before

pub returns-clause-steps : goal.returns-clause-steps
returns-clause-steps c = steps_are
