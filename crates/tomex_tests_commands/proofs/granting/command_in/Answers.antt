-- The allocator frees what its inner one does.
use Rattle.std.proofs.Crossing.{frees}
use Rattle.tomex_tests_commands.proofs.granting.command_in.Goals as goal

pub outcome_of-requires-frees-A-Allocator : goal.outcome_of-requires-frees-A-Allocator
outcome_of-requires-frees-A-Allocator g c κs within = record { frees = λ a τ p. frees.frees a.inner τ p }
