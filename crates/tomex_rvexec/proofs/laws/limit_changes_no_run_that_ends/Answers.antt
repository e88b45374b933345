use Rattle.tomex_rvexec.proofs.FlowEnds.{ends_within_more, same_steps, steps_to_end}
use Rattle.tomex_rvexec.proofs.laws.limit_changes_no_run_that_ends.Goals as goal

pub returns-clause-more : goal.returns-clause-more
returns-clause-more c = ends_within_more

pub returns-clause-same : goal.returns-clause-same
returns-clause-same c = same_steps

pub returns-clause-steps : goal.returns-clause-steps
returns-clause-steps c = steps_to_end
