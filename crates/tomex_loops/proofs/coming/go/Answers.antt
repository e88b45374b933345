-- Closed at once: searching by rules first takes long.
use Rattle.std.proofs.Common.{arith}
use Rattle.std.proofs.lemmas.Grind.{common_steps}
use Rattle.tomex_loops.proofs.coming.go.Goals as goal

pub returns-in_ok-push-in-Call-clause-awaited : goal.returns-in_ok-push-in-Call-clause-awaited
returns-in_ok-push-in-Call-clause-awaited = grind (arith, common_steps)

pub returns-in-Return-clause-awaited : goal.returns-in-Return-clause-awaited
returns-in-Return-clause-awaited = grind (arith, common_steps)
