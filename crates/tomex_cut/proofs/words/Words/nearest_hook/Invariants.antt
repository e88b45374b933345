use Rattle.tomex_cut.proofs.Rooms.{NearestIs}
use Rattle.tomex_cut.proofs.words.Words.nearest_hook.Given as goal

abbrev pub invariant-loop-first : goal.invariant-loop-first
invariant-loop-first g l = NearestIs l.self.base l.self.marks.items l.pc l.first l.nearest
