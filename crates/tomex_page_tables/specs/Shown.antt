-- The rows of the front that a page shows, each in a view of its own: all of them, or 64 of more.
use Rattle.std.specs.Prelude.{ℕ, ◌-◌, ◌*◌, ◌/◌, nat_le, if◌then◌else◌, List, length, map, slice_index_or}
use Rattle.std.specs.List.{range_with_len}
use Rattle.tomex_pareto.specs.declared.front_row.FrontRow.{FrontRow}
use Rattle.tomex_study.specs.Study.{DesignSpace, config_at}
use Rattle.tomex_page_tables.specs.declared.shown.ShownRow.{ShownRow}

-- the most rows that are shown
abbrev pub most_rows : ℕ
most_rows = 64

abbrev pub no_row : FrontRow
no_row = record { row = 0; cost = 0; cycles = 0 }

-- the place, among n rows, of the k-th that is shown, from 0 to 63: so the first and the last are among them, and the
-- others evenly between these
abbrev pub chosen_place : ℕ → ℕ → ℕ
chosen_place n k = k * (n - 1) / 63

abbrev pub chosen_row : List FrontRow → ℕ → FrontRow
chosen_row front k = slice_index_or front (chosen_place (length front) k) no_row

unfoldable pub shown_rows : List FrontRow → List FrontRow
shown_rows front =
    if nat_le (length front) most_rows then front else map (chosen_row front) (range_with_len 0 most_rows)

-- a row of a study, with its configuration
abbrev pub row_of : DesignSpace → FrontRow → ShownRow
row_of s r = record { row = r; config = config_at s r.row }
