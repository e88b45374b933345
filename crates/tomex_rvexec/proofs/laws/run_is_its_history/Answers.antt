use Rattle.tomex_rvexec.proofs.FlowRuns.{run_flow, run_follows, run_leaves, run_state}
use Rattle.tomex_rvexec.proofs.FlowWidths.{run_words}
use Rattle.tomex_rvexec.proofs.laws.run_is_its_history.Goals as goal

pub returns-clause-leaves : goal.returns-clause-leaves
returns-clause-leaves c = run_leaves

pub returns-clause-state : goal.returns-clause-state
returns-clause-state c = run_state

pub returns-clause-flow : goal.returns-clause-flow
returns-clause-flow c = run_flow

pub returns-clause-follows : goal.returns-clause-follows
returns-clause-follows c = run_follows

pub returns-clause-words : goal.returns-clause-words
returns-clause-words c = run_words
