-- The ends of programs on front rows.
use Rattle.std.specs.Prelude.{◌≡◌, Some, slice_get}
use Rattle.std.specs.List.{AllZip}
use Rattle.tomex_config.specs.Configuration.{Configuration}
use Rattle.tomex_study.specs.Study.{DesignSpace}
use Rattle.tomex_pareto.specs.declared.front_row.FrontRow.{FrontRow}
use Rattle.tomex_texts.specs.declared.row_ends.RowEnds.{RowEnds}
use Rattle.tomex_texts.specs.Ends.{IsProgramEnd}

-- each program's end on a configuration of the study, in order
pub record AreEndsOf {A : Type 0} (s : DesignSpace) (r : FrontRow) (e : RowEnds A) : Type 0 where
  pub config : Configuration
  pub config_is : slice_get s.rows r.row ≡ Some config
  pub ends : AllZip (IsProgramEnd config) s.programs e.programs.items
