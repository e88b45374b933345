-- A seat as contracts see it.
use Rattle.atomic_table.specs.Seated.{TableId}
use Rattle.tomex_board.specs.declared.view.View.{View}

-- its board, and what it knows
pub record Known : Type 0 where
  pub board : TableId
  pub view : View
