use Rattle.tomex_rvexec.proofs.FlowEnds.{end_is, step_allowed, step_comes, step_ends_it, step_follows, step_goes_on}
use Rattle.tomex_rvexec.proofs.FlowEnds.{step_joins}
use Rattle.tomex_rvexec.proofs.laws.run_that_ends_is_a_flow_of_steps.Goals as goal

pub returns-clause-comes : goal.returns-clause-comes
returns-clause-comes c = step_comes

pub returns-clause-joins : goal.returns-clause-joins
returns-clause-joins c = step_joins

pub returns-clause-follows : goal.returns-clause-follows
returns-clause-follows c = step_follows

pub returns-clause-on : goal.returns-clause-on
returns-clause-on c = step_goes_on

pub returns-clause-allowed : goal.returns-clause-allowed
returns-clause-allowed c = step_allowed

pub returns-clause-kind : goal.returns-clause-kind
returns-clause-kind c = step_ends_it

pub returns-clause-end : goal.returns-clause-end
returns-clause-end c = end_is
