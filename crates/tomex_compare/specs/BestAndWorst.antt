-- The best and the worst row of a program, beside any other row.
use Rattle.std.specs.Prelude.{◌≡◌, ℕ, ◌<◌, ◌≤◌, length}
use Rattle.tomex_study.specs.Cycles.{total_at}
use Rattle.tomex_study.specs.Program.{Workload}
use Rattle.tomex_study.specs.Study.{DesignSpace}
use Rattle.tomex_compare.specs.ProgramTable.{best_row, worst_row}
use Rattle.tomex_compare.specs.declared.extremes.RowCycles.{RowCycles}

-- no row takes fewer cycles than the best one, and none before it as few; none takes more than the worst one, and none
-- after it as many
pub record IsBetween (s : DesignSpace) (p : Workload) (row : ℕ) : Type 0 where
  pub least : (best_row s p).cycles ≤ total_at s p row
  pub first : row < (best_row s p).row → (best_row s p).cycles < total_at s p row
  pub greatest : total_at s p row ≤ (worst_row s p).cycles
  pub last : (worst_row s p).row < row → total_at s p row < (worst_row s p).cycles

abbrev pub AreBetween : Type 0
AreBetween = (s : DesignSpace) (p : Workload) (row : ℕ) → row < length s.rows → IsBetween s p row

-- a row of the study with its cycles
pub record IsRow (s : DesignSpace) (p : Workload) (r : RowCycles) : Type 0 where
  pub within : r.row < length s.rows
  pub own : r.cycles ≡ total_at s p r.row

abbrev pub AreRows : Type 0
AreRows = (s : DesignSpace) (p : Workload) → 0 < length s.rows → IsRow s p (best_row s p) × IsRow s p (worst_row s p)
