-- Instruction status: a row for each step that is listed.
use Rattle.std.specs.Prelude.{ℕ, ◌-◌, nat_le, nat_lt, if◌then◌else◌, List, [], ◌++◌, codes, count_by, Option}
use Rattle.std.specs.List.{flat_map}
use Rattle.std.specs.Fmt.{decimal}
use Rattle.tomex_rvdec.specs.Text.{instr_text}
use Rattle.tomex_rvexec.specs.Steps.{is_number}
use Rattle.tomex_html.specs.Html.{table_end}
use Rattle.tomex_frames.specs.Cells.{address_cell, cell_text, doing_in, doing_text, execute_cell, issue_cell}
use Rattle.tomex_frames.specs.Cells.{station_cell, write_cell}
use Rattle.tomex_frames.specs.Constants.{status_head}
use Rattle.tomex_snapshots.specs.Entries.{is_listed_in}
use Rattle.tomex_snapshots.specs.declared.entries.Entry.{Entry}
use Rattle.tomex_snapshots.specs.declared.entries.Span.{Span}

-- the step on the path has a frame; steps that issue later and those that have ended look paler
abbrev pub row_class : Option ℕ → ℕ → Entry → List ℕ
row_class framed t e =
    if is_number framed e.number then codes " class=\"p\""
    else (if nat_lt t e.at.issue then codes " class=\"f\""
    else (if nat_lt e.at.end t then codes " class=\"o\"" else []))

unfoldable pub row_head : Option ℕ → ℕ → Entry → List ℕ
row_head framed t e =
    codes "<tr" ++ (row_class framed t e ++ (codes "><td>" ++ (decimal e.number
    ++ (codes "</td><th scope=\"row\">" ++ (instr_text e.step.instr ++ codes "</th>")))))

unfoldable pub row_cells : ℕ → Entry → List ℕ
row_cells t e =
    cell_text (station_cell t e) ++ (cell_text (issue_cell t e) ++ (cell_text (address_cell t e)
    ++ (cell_text (execute_cell t e) ++ cell_text (write_cell t e))))

unfoldable pub step_row : Option ℕ → ℕ → Entry → List ℕ
step_row framed t e =
    row_head framed t e ++ (row_cells t e ++ (codes "<td>" ++ (doing_text (doing_in t e) ++ codes "</td></tr>\n")))

-- All steps of the page's cycles if these are at most 16: then the table keeps its rows, and fills in. Otherwise those
-- of a cycle and the two before it.
abbrev pub listed_cycles : Span → List Entry → ℕ → Span
listed_cycles page es t =
    if nat_le (count_by (is_listed_in page) es) 16 then page else record { from = t - 2; to = t }

abbrev pub row_if : Option ℕ → Span → ℕ → Entry → List ℕ
row_if framed span t e = if is_listed_in span e then step_row framed t e else []

-- the table of a view in which this step has the frame
unfoldable pub status_table : Option ℕ → Span → List Entry → ℕ → List ℕ
status_table framed page es t =
    status_head ++ (flat_map (row_if framed (listed_cycles page es t) t) es ++ table_end)
