use Rattle.std.proofs.Common.{ℕ, ◌<◌}
use Rattle.tomex_cut.specs.Marks.{StandsAt}
use Rattle.tomex_cut.proofs.words.Words.lowest_place.Given as goal

abbrev pub invariant-loop-first : goal.invariant-loop-first
invariant-loop-first g l = (k : ℕ) → k < l.first → StandsAt l.self.base l.self.marks.items l.hook k → ⊥
