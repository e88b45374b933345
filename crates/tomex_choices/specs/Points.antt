-- Points: what a machine costs and how many cycles it takes, whichever machine it is.
use Rattle.std.specs.Prelude.{ℕ, ◌≤◌, List, map}
use Rattle.std.specs.List.{Contains}
use Rattle.tomex_config.specs.Configuration.{Configuration}
use Rattle.tomex_config.specs.Cost.{cost_of}
use Rattle.tomex_pareto.specs.Front.{front_of}
use Rattle.tomex_pareto.specs.declared.front_row.FrontRow.{FrontRow}
use Rattle.tomex_study.specs.Cycles.{cycles_on}
use Rattle.tomex_study.specs.Study.{DesignSpace}
use Rattle.tomex_study.specs.StudyFront.{all_rows}

-- a row's cost and its cycles
abbrev pub point_of : FrontRow → ℕ × ℕ
point_of r = (r.cost, r.cycles)

-- the points of the front of some rows
abbrev pub front_points : List FrontRow → List (ℕ × ℕ)
front_points rows = map point_of (front_of rows)

-- each point of one front is a point of the other
abbrev pub HaveSamePoints : (rows others : List FrontRow) → Type 0
HaveSamePoints rows others = (p : ℕ × ℕ)
    → (Contains (front_points rows) p → Contains (front_points others) p)
    × (Contains (front_points others) p → Contains (front_points rows) p)

-- with more rows each row of the front stays on it, and no point is added
pub record IsFrontKept (rows more : List FrontRow) : Type 0 where
  pub rows_stay : (r : FrontRow) → Contains (front_of rows) r → Contains (front_of more) r
  pub points : HaveSamePoints rows more

-- a machine beside the rows of a study; its number doesn't matter
abbrev pub row_of : DesignSpace → Configuration → FrontRow
row_of s d = record { row = 0; cost = cost_of d s.prices; cycles = cycles_on s.programs d }

-- some row of a study costs no more than a machine and takes no more cycles
pub record IsCovered (s : DesignSpace) (d : Configuration) : Type 0 where
  pub row : FrontRow
  pub is_row : Contains (all_rows s) row
  pub cost : row.cost ≤ cost_of d s.prices
  pub cycles : row.cycles ≤ cycles_on s.programs d
