use Rattle.std.proofs.Common.{◌<◌, ℕ, slice_index}
use Rattle.tomex_board.proofs.floors.band_of.Given as goal

abbrev pub invariant-loop-k : goal.invariant-loop-k
invariant-loop-k l = (j : ℕ) → j < l.k → slice_index l.floors j < l.cost
