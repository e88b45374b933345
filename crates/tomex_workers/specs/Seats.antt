-- A worker's seat from one moment to a later one.
use Rattle.std.specs.Prelude.{◌≡◌}
use Rattle.tomex_board.specs.Known.{Known}
use Rattle.tomex_board.specs.Views.{Grows}

-- it is a seat of the same board with the same share of its 32 numbers, and knows no less
pub record Continues (old new : Known) : Type 0 where
  pub board : new.board ≡ old.board
  pub share : new.view.share ≡ old.view.share
  pub grown : Grows old.view new.view
