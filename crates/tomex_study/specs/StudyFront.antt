-- The rows of a study, with their costs and cycles, and their Pareto front.
use Rattle.std.specs.Prelude.{ℕ, List, slice_index_or}
use Rattle.tomex_pareto.specs.Front.{front_of, rows_from}
use Rattle.tomex_pareto.specs.declared.front_row.FrontRow.{FrontRow}
use Rattle.tomex_study.specs.Cycles.{cycles_of, cycles_on}
use Rattle.tomex_study.specs.Study.{DesignSpace, config_at}

-- the row of this number
abbrev pub row_at : DesignSpace → ℕ → FrontRow
row_at s n =
    record { row = n; cost = slice_index_or s.costs n 0; cycles = cycles_on s.programs (config_at s n) }

-- all rows of a study, by number
abbrev pub all_rows : DesignSpace → List FrontRow
all_rows s = rows_from 0 s.costs (cycles_of s)

-- the front of all rows of a study
unfoldable pub front_of_study : DesignSpace → List FrontRow
front_of_study s = front_of (all_rows s)
