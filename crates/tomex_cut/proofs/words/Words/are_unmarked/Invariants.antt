use Rattle.std.proofs.Common.{◌≡◌, ℕ, ◌+◌, ◌<◌, false}
use Rattle.tomex_cut.specs.Marks.{mark_of}
use Rattle.tomex_cut.proofs.words.Words.are_unmarked.Given as goal

abbrev pub invariant-loop-k : goal.invariant-loop-k
invariant-loop-k g l = (j : ℕ) → j < l.k → mark_of l.self.marks.items (l.first + j) ≡ false
