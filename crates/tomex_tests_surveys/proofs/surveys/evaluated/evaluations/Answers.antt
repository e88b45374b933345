-- The allocator frees what its inner one does.
use Rattle.std.proofs.Crossing.{frees}
use Rattle.tomex_tests_surveys.proofs.surveys.evaluated.evaluations.Goals as goal

pub survey-requires-frees-A-Allocator : goal.survey-requires-frees-A-Allocator
survey-requires-frees-A-Allocator g c κs within = record { frees = λ a τ p. frees.frees a.inner τ p }
