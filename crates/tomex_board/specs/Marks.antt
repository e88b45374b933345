-- When the marks of a board's rows are lawful.
use Rattle.std.specs.Prelude.{◌≡◌, ℕ, ◌<◌, ◌≤◌, List, Some, slice_get, slice_index}
use Rattle.tomex_board.specs.declared.mark.Mark.{Mark}
use Rattle.tomex_board.specs.declared.mark.Mark.TheVariants.{Finished, Dropped}

-- A row is finished with its own cycles, and dropped only for a finished row that costs no more and
-- is strictly faster.
pub record AreLawful (costs cycles : List ℕ) (marks : List Mark) : Type 0 where
  pub finished : (i y : ℕ) → slice_get marks i ≡ Some (Finished y) → y ≡ slice_index cycles i
  pub dropped : (i j : ℕ) → slice_get marks i ≡ Some (Dropped j)
      → (slice_get marks j ≡ Some (Finished (slice_index cycles j))) × (slice_index costs j ≤ slice_index costs i)
      × (slice_index cycles j < slice_index cycles i)
