-- What workers get and return, as contracts see it.
use Rattle.std.specs.Prelude.{◌≡◌, ℕ, ◌<◌, Bool, true, false, List, [], All, Contains}
use Rattle.std.specs.List.{flat_map}
use Rattle.atomic_table.specs.Seated.{TableId}
use Rattle.tomex_board.specs.Known.{Known}
use Rattle.tomex_board.specs.Views.{IsWhole}
use Rattle.tomex_board.specs.declared.mark.Mark.{Mark}
use Rattle.tomex_board.specs.declared.mark.Mark.TheVariants.{Finished, Dropped}
use Rattle.tomex_lanes.specs.Lanes.{Dealt}

-- a worker before it starts: its lane, and a seat of the board
pub record Equipped : Type 0 where
  pub lane : Dealt
  pub seat : Known

-- the part that it returns: a seat of the board, and a list of rows
pub record Returned : Type 0 where
  pub seat : Known
  pub rows : List ℕ

-- these seats are of one board, with nothing in hand, and have all 32 numbers together
pub record AreSeated (board : TableId) (seats : List Known) : Type 0 where
  pub boards : All (λ s. s.board ≡ board) seats
  pub hands : All (λ s. s.view.hand ≡ []) seats
  pub shares : IsWhole (flat_map (λ s. s.view.share) seats)

-- these parts have seats of one board and together all 32 numbers, and each row is on one of their lists
pub record AreWhole (board : TableId) (count : ℕ) (parts : List Returned) : Type 0 where
  pub boards : All (λ p. p.seat.board ≡ board) parts
  pub shares : IsWhole (flat_map (λ p. p.seat.view.share) parts)
  pub rows : (row : ℕ) → row < count → Contains (flat_map (λ p. p.rows) parts) row

-- the row was run to its end, or given up for another
abbrev pub is_closed : Mark → Bool
is_closed (Finished y) = true
is_closed (Dropped j) = true
is_closed _ = false
