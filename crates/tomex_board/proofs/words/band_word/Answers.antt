use Rattle.std.proofs.Common.{rules}
use Rattle.tomex_board.proofs.words.band_word.Goals as goal

pub returns : goal.returns
returns c = search rules fits 100
