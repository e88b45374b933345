-- How far the fastest row is from the floors.
use Rattle.std.specs.Prelude.{ℕ, List, ◌++◌, codes}
use Rattle.std.specs.Fmt.{decimal}
use Rattle.tomex_choices_table.specs.ChoicesTable.{floor_text}
use Rattle.tomex_study.specs.declared.list_report.Floors.{Floors}

-- the first sentence
abbrev pub fastest_text : ℕ → List ℕ
fastest_text fewest = codes "<p>The fastest row takes " ++ (decimal fewest ++ codes " cycles. ")

-- the fewest cycles of a row, and both floors with their differences from these
unfoldable pub floor_sentence : Floors → List ℕ
floor_sentence f =
    fastest_text f.fastest
    ++ (codes "No machine with these latencies and widths takes fewer than " ++ (floor_text f.fastest f.own
    ++ (codes ", and none with these latencies and any width fewer than " ++ (floor_text f.fastest f.any_width
    ++ codes ".</p>\n"))))
