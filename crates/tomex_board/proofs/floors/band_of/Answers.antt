use Rattle.std.proofs.Common.{rules}
use Rattle.tomex_board.proofs.floors.band_of.Goals as goal

pub loop-k-preserved : goal.loop-k-preserved
loop-k-preserved c = search rules fits 100
