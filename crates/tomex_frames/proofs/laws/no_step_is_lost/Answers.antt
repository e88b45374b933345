-- A step is there from the issue before it to its end.
use Rattle.tomex_frames.proofs.Views.{blank_rows_are_of_steps, next_is_listed, nothing_is_lost, rows_are_of_steps}
use Rattle.tomex_frames.proofs.Views.{waits_come_before_issues}
use Rattle.tomex_frames.proofs.laws.no_step_is_lost.Goals as goal

pub returns-clause-rows : goal.returns-clause-rows
returns-clause-rows c = rows_are_of_steps

pub returns-clause-blank : goal.returns-clause-blank
returns-clause-blank c = blank_rows_are_of_steps

pub returns-clause-listed : goal.returns-clause-listed
returns-clause-listed c = nothing_is_lost

pub returns-clause-order : goal.returns-clause-order
returns-clause-order c = waits_come_before_issues

pub returns-clause-next : goal.returns-clause-next
returns-clause-next c = next_is_listed
