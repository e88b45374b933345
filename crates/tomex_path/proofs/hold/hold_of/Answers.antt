-- The event's.
use Rattle.std.proofs.Common.{inl, inr}
use Rattle.tomex_path.proofs.hold.hold_of.Goals as goal

pub returns-in-Issue : goal.returns-in-Issue
returns-in-Issue c = λ config older d e. rw c.in-Issue.is (c.issue_of.ensures config older d e)

pub returns-in-Address : goal.returns-in-Address
returns-in-Address c = λ config older d e. rw c.in-Address.is (c.address_of.ensures config older d e)

pub returns-in-Start : goal.returns-in-Start
returns-in-Start c = λ config older d e. elim c.in-Start.is [
  | inl is ↦ rw is (c.start_of.ensures config older d e)
  | inr is ↦ rw is (c.start_of.ensures config older d e)
]

pub returns-in-End : goal.returns-in-End
returns-in-End c = λ config older d e. rw c.in-End.is (c.end_of.ensures config older d e)
