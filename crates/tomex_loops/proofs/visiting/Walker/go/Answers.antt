-- Closed at once: searching by rules first takes long.
use Rattle.std.proofs.Common.{arith}
use Rattle.std.proofs.lemmas.Grind.{common_steps}
use Rattle.tomex_loops.proofs.visiting.Walker.go.Goals as goal

pub returns-in-Return-clause-state : goal.returns-in-Return-clause-state
returns-in-Return-clause-state = grind (arith, common_steps)

pub returns-in_ok-push-in-Call-clause-shows : goal.returns-in_ok-push-in-Call-clause-shows
returns-in_ok-push-in-Call-clause-shows = grind (arith, common_steps)

pub returns-in_ok-push-in-Call-clause-state : goal.returns-in_ok-push-in-Call-clause-state
returns-in_ok-push-in-Call-clause-state = grind (arith, common_steps)

pub returns-in-Return-clause-shows : goal.returns-in-Return-clause-shows
returns-in-Return-clause-shows = grind (arith, common_steps)
