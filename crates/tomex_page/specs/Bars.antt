-- Bars: a number of cycles, with those of them that lie on a run's path, beside all cycles of the run.
use Rattle.std.specs.Prelude.{ℕ, ◌*◌, ◌/◌, ◌==◌, min, if◌then◌else◌, List, [], ◌++◌, codes}
use Rattle.std.specs.Fmt.{decimal}
use Rattle.tomex_html.specs.Html.{td}
use Rattle.tomex_html.specs.Tables.{number_cell}

-- a number of cycles in percent of all, at most 100, so that a bar fits its cell
abbrev pub share : ℕ → ℕ → ℕ
share n total = min 100 (n * 100 / total)

-- an element with this percentage of its cell's width
unfoldable pub stretch : List ℕ → ℕ → List ℕ
stretch element percent =
    codes "<"
    ++ (element ++ (codes " style=\"width:" ++ (decimal percent ++ (codes "%\"></" ++ (element ++ codes ">")))))

-- no element for 0 cycles
unfoldable pub bar_part : List ℕ → ℕ → ℕ → List ℕ
bar_part element n total = if n == 0 then [] else stretch element (share n total)

-- both parts begin on the left and have one scale
unfoldable pub bar : ℕ → ℕ → ℕ → List ℕ
bar n on_path total = td (bar_part (codes "i") n total ++ bar_part (codes "b") on_path total)

-- a number of cycles, those of them that lie on the path, and their bar
unfoldable pub cycle_cells : ℕ → ℕ → ℕ → List ℕ
cycle_cells n on_path total = number_cell n ++ (number_cell on_path ++ bar n on_path total)

-- the cells of what has no count, for cycles in which nothing waits, so that none lies on the path as a wait
unfoldable pub drain_cells : ℕ → ℕ → List ℕ
drain_cells n total = td [] ++ (td [] ++ (number_cell n ++ (td [] ++ bar n 0 total)))
