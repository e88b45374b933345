-- The allocator frees what its inner one does.
use Rattle.std.proofs.Crossing.{frees}
use Rattle.tomex_tests_sweeps.proofs.answers.marks_in.Goals as goal

pub explore_on-requires-frees-A-Allocator : goal.explore_on-requires-frees-A-Allocator
explore_on-requires-frees-A-Allocator g c κs within = record { frees = λ a τ p. frees.frees a.inner τ p }
