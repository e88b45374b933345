-- The second pass begins with the seat that the first one leaves.
use Rattle.std.proofs.Common.{ap, ◌∙◌}
use Rattle.tomex_workers.proofs.Closing.{continues_itself, continues_on}
use Rattle.tomex_workers.proofs.desk.Desk.try_all.Goals as goal

pub new-requires-clause-few : goal.new-requires-clause-few
new-requires-clause-few g c = rw c.programs.ensures.value c.keeps_limits.ensures.few_programs

pub new-requires-clause-ends : goal.new-requires-clause-ends
new-requires-clause-ends g c = rw c.programs.ensures.value c.keeps_limits.ensures.ends

pub returns-in_err-knowledge-clause-seat : goal.returns-in_err-knowledge-clause-seat
returns-in_err-knowledge-clause-seat g c = continues_itself _

pub try_taken-requires-clause-programs : goal.try_taken-requires-clause-programs
try_taken-requires-clause-programs g c = c.in_ok-knowledge.ensures.programs ∙ c.programs.ensures.value

pub returns-in_err-try_taken-clause-seat : goal.returns-in_err-try_taken-clause-seat
returns-in_err-try_taken-clause-seat g c = c.try_taken.ensures.seat

pub try_listed-requires-clause-programs : goal.try_listed-requires-clause-programs
try_listed-requires-clause-programs g c =
    c.try_taken.ensures.programs
    ∙ (c.in_ok-knowledge.ensures.programs ∙ c.programs.ensures.value)

pub try_listed-requires-clause-board : goal.try_listed-requires-clause-board
try_listed-requires-clause-board g c = c.try_taken.ensures.seat.board ∙ c.requires.board

pub returns-clause-seat : goal.returns-clause-seat
returns-clause-seat g c = continues_on _ _ _ c.try_taken.ensures.seat c.try_listed.ensures.seat
