-- The allocator frees what its inner one does.
use Rattle.std.proofs.Crossing.{frees}
use Rattle.tomex_tests_sweeps.proofs.answers.report_of.Goals as goal

pub answer-requires-frees-A-Allocator : goal.answer-requires-frees-A-Allocator
answer-requires-frees-A-Allocator g c κs within = record { frees = λ a τ p. frees.frees a.inner τ p }

pub answer_all-requires-frees-A-Allocator : goal.answer_all-requires-frees-A-Allocator
answer_all-requires-frees-A-Allocator g c κs within = record { frees = λ a τ p. frees.frees a.inner τ p }
