-- Marks of rows: when all are judged, how many are left to run, and that only these change.
use Rattle.std.specs.Prelude.{◌≡◌, ℕ, true, List, Some, length, slice_get, All, sum_by, if◌then◌else◌}
use Rattle.tomex_board.specs.Marks.{AreLawful}
use Rattle.tomex_board.specs.declared.mark.Mark.{Mark}
use Rattle.tomex_lanes.specs.Parts.{is_closed}

-- a mark for each row, each finished or dropped, all lawful
pub record AreJudged (costs cycles : List ℕ) (marks : List Mark) : Type 0 where
  pub count : length marks ≡ length costs
  pub closed : All (λ m. is_closed m ≡ true) marks
  pub lawful : AreLawful costs cycles marks

-- 1 for a row that no worker closed
abbrev pub left_of_mark : Mark → ℕ
left_of_mark m = if is_closed m then 0 else 1

-- the number of rows that no worker closed
abbrev pub rows_left : List Mark → ℕ
rows_left marks = sum_by left_of_mark marks

-- closed rows keep their marks
abbrev pub StayClosed : List Mark → List Mark → Type 0
StayClosed old new = (row : ℕ) (m : Mark) → slice_get old row ≡ Some m → is_closed m ≡ true
    → slice_get new row ≡ Some m
