-- The table of a study's choices: for each list which of them are on the front, which may go, which others are worth
-- adding and what they bring, and how many are enough; and how far the fastest row is from the floors.
use Rattle.std.specs.Prelude.{ℕ, ◌==◌, if◌then◌else◌, List, [], ◌∷◌, ◌++◌, codes, length, map, Option, Some, None}
use Rattle.std.specs.List.{flat_map}
use Rattle.std.specs.Fmt.{decimal}
use Rattle.tomex_config.specs.Configuration.{Configuration}
use Rattle.tomex_study.specs.ListFindings.{ListFindings}
use Rattle.tomex_study.specs.declared.list_report.Floors.{Floors}
use Rattle.tomex_study.specs.declared.list_report.Saving.{Saving}
use Rattle.tomex_layout.specs.Table.{TableColumn, table_of}
use Rattle.tomex_config.specs.declared.part.Part.{Part}
use Rattle.tomex_layout.specs.Differences.{percent}
use Rattle.tomex_layout.specs.Lists.{entry_text, name_of_list}
use Rattle.tomex_config.specs.Parts.{most_of}
use Rattle.tomex_choices_table.specs.declared.heading.Heading.{Heading}
use Rattle.tomex_choices_table.specs.declared.heading.Heading.TheVariants as headings

-- the entries of some configurations in a part's list, joined by commas; `-` if there are none
unfoldable pub after_comma : Part → Configuration → List ℕ
after_comma part c = codes "," ++ entry_text c part

unfoldable pub entries_cell : Part → List Configuration → List ℕ
entries_cell part [] = codes "-"
entries_cell part (c ∷ configs) = entry_text c part ++ flat_map (after_comma part) configs

-- a saving in percent of what its cost buys now, and its cost
abbrev pub percent_cell : Option Saving → List ℕ
percent_cell None = codes "0"
percent_cell (Some v) = percent v.now v.new

abbrev pub cost_cell : Option Saving → List ℕ
cost_cell None = codes "-"
cost_cell (Some v) = decimal v.cost

-- if it is the most, nobody knows whether it is enough
abbrev pub enough_cell : Part → ℕ → List ℕ
enough_cell part n = if n == most_of part then codes "-" else decimal n

abbrev pub name_under : Heading → List ℕ
name_under headings.List = codes "list"
name_under headings.Front = codes "front"
name_under headings.Unused = codes "unused"
name_under headings.Add = codes "add"
name_under headings.Percent = codes "%"
name_under headings.Cost = codes "cost"
name_under headings.Enough = codes "enough"

-- the text under a heading in the line of a list
abbrev pub text_under : Heading → ListFindings → List ℕ
text_under headings.List l = name_of_list l.part
text_under headings.Front l = entries_cell l.part l.front
text_under headings.Unused l = entries_cell l.part l.unused
text_under headings.Add l = entries_cell l.part l.additions
text_under headings.Percent l = percent_cell l.saving
text_under headings.Cost l = cost_cell l.saving
text_under headings.Enough l = enough_cell l.part l.enough

unfoldable pub heading_column : List ListFindings → Heading → TableColumn
heading_column lists heading = record { name = name_under heading; entries = map (text_under heading) lists }

abbrev pub all_headings : List Heading
all_headings =
    headings.List ∷ headings.Front ∷ headings.Unused ∷ headings.Add ∷ headings.Percent ∷ headings.Cost
    ∷ headings.Enough ∷ []

-- a floor, and its difference from the fewest cycles in percent of these
unfoldable pub floor_text : ℕ → ℕ → List ℕ
floor_text fewest floor = decimal floor ++ (codes " (" ++ (percent fewest floor ++ codes "%)"))

unfoldable pub both_floors : Floors → List ℕ
both_floors f = floor_text f.fastest f.own ++ (codes ", at any width " ++ floor_text f.fastest f.any_width)

-- the last line: the fewest cycles of a row, and the floors
unfoldable pub floors_text : Floors → List ℕ
floors_text f =
    codes "fastest " ++ (decimal f.fastest ++ (codes ", floor " ++ (both_floors f ++ codes "\n")))

-- the table of what was found out of lists, with a line for each, and of the floors
unfoldable pub choices_table_of : List ListFindings → Floors → List ℕ
choices_table_of lists floors =
    table_of (length lists) (map (heading_column lists) all_headings) ++ floors_text floors
