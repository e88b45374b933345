-- Closed at once: searching by rules first takes long.
use Rattle.std.proofs.Common.{arith}
use Rattle.std.proofs.lemmas.Grind.{common_steps}
use Rattle.tomex_loops.proofs.visiting.Walker.arrive.Goals as goal

pub go_round-requires-clause-some : goal.go_round-requires-clause-some
go_round-requires-clause-some = grind (arith, common_steps)
