-- The allocator frees what its inner one does.
use Rattle.std.proofs.Crossing.{frees}
use Rattle.tomex_tests_surveys.proofs.choices.found.Goals as goal

pub weigh_choices-requires-frees-A-Allocator : goal.weigh_choices-requires-frees-A-Allocator
weigh_choices-requires-frees-A-Allocator g c κs within = record { frees = λ a τ p. frees.frees a.inner τ p }
