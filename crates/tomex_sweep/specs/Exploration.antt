-- The result of an exploration.
use Rattle.std.specs.Prelude.{◌≡◌, ℕ, List}
use Rattle.tomex_board.specs.declared.mark.Mark.{Mark}
use Rattle.tomex_pareto.specs.declared.front_row.FrontRow.{FrontRow}
use Rattle.tomex_study.specs.Cycles.{cycles_of}
use Rattle.tomex_study.specs.StudyFront.{front_of_study}
use Rattle.tomex_study.specs.Study.{DesignSpace}
use Rattle.tomex_sweep.specs.Marks.{AreJudged}

-- a mark for each row, the front of all rows, and the number of rows that were run after the workers: 0
pub record IsExploration (s : DesignSpace) (given : List Mark) (found : List FrontRow) (late : ℕ) : Type 0 where
  pub marks : AreJudged s.costs (cycles_of s) given
  pub front : found ≡ front_of_study s
  pub gathered : late ≡ 0
