-- Workers that are started, and what they must return.
use Rattle.std.specs.Prelude.{◌≡◌, ℕ, List, [], All, length}
use Rattle.atomic_table.specs.Seated.{TableId}
use Rattle.tomex_lanes.specs.Parts.{Equipped, Returned}
use Rattle.tomex_study.specs.Study.{DesignSpace}
use Rattle.tomex_workers.specs.Plans.{IsPlanOf}

-- its seat is of the board, with nothing in hand, and its lane was dealt from `count` rows of all workers
abbrev pub CanStart : TableId → ℕ → Equipped → Type 0
CanStart board count w = (w.seat.board ≡ board) × (w.seat.view.hand ≡ []) × (w.lane.count ≡ count)

-- the board was made for the study, and each of the workers can start
pub record CanRun (s : DesignSpace) (costs cycles : List ℕ) (board : TableId) (workers : List Equipped) : Type 0 where
  pub plan : IsPlanOf s costs cycles
  pub all : All (CanStart board (length costs)) workers

-- a list of rows, a board, and numbers
abbrev pub Owed : Type 0
Owed = List ℕ × TableId × List ℕ

-- what a worker must return: the rows of its lane, a seat of its board, and its numbers
abbrev pub owed_by : Equipped → Owed
owed_by w = (w.lane.rows, w.seat.board, w.seat.view.share)

-- what a part returns of these
abbrev pub given_by : Returned → Owed
given_by p = (p.rows, p.seat.board, p.seat.view.share)
