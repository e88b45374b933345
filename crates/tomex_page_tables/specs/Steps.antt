-- Which rows of the front are steps worth taking: those on its hull.
use Rattle.std.specs.Prelude.{ℕ, List, ◌++◌, codes, length}
use Rattle.std.specs.Fmt.{decimal}
use Rattle.tomex_pareto.specs.declared.front_row.FrontRow.{FrontRow}
use Rattle.tomex_page_tables.specs.Front.{row_text}
use Rattle.tomex_page_tables.specs.Pieces.{some}

-- how many there are of `front` rows, and their numbers, which are links if the rows are shown
unfoldable pub steps_sentence : List FrontRow → ℕ → List FrontRow → List ℕ
steps_sentence hull front shown =
    codes "<p>" ++ (decimal (length hull) ++ (codes " of these " ++ (decimal front
    ++ (codes " are steps worth taking: " ++ (some (λ (r : FrontRow). row_text shown r.row) hull ++ codes ".</p>")))))
