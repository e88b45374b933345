-- A study's choices as CSV: the lines of its table.
use Rattle.std.specs.Prelude.{ℕ, List, [], ◌∷◌, ◌++◌, codes, map}
use Rattle.std.specs.List.{flat_map}
use Rattle.tomex_config.specs.Configuration.{Configuration}
use Rattle.tomex_config.specs.declared.part.Part.{Part}
use Rattle.tomex_layout.specs.CsvFields.{number_field}
use Rattle.tomex_layout.specs.Csv.{record_text}
use Rattle.tomex_layout.specs.Lists.{entry_text}
use Rattle.tomex_study.specs.ListFindings.{ListFindings}
use Rattle.tomex_choices_table.specs.ChoicesTable.{all_headings, text_under}
use Rattle.tomex_choices_table.specs.declared.heading.Heading.{Heading}
use Rattle.tomex_choices_table.specs.declared.heading.Heading.TheVariants as headings

abbrev pub names : List (List ℕ)
names =
    codes "list" ∷ codes "front" ∷ codes "unused" ∷ codes "add" ∷ codes "percent" ∷ codes "cost" ∷ codes "enough" ∷ []

-- the entries of some configurations in a part's list, with spaces between them
unfoldable pub after_space : Part → Configuration → List ℕ
after_space part c = codes " " ++ entry_text c part

abbrev pub entries_field : Part → List Configuration → List ℕ
entries_field part [] = []
entries_field part (c ∷ configs) = entry_text c part ++ flat_map (after_space part) configs

-- what a list has under a heading of the table: entries with spaces between them, and of numbers nothing where there is
-- none
abbrev pub field_under : ListFindings → Heading → List ℕ
field_under l headings.List = text_under headings.List l
field_under l headings.Front = entries_field l.part l.front
field_under l headings.Unused = entries_field l.part l.unused
field_under l headings.Add = entries_field l.part l.additions
field_under l headings.Percent = number_field (text_under headings.Percent l)
field_under l headings.Cost = number_field (text_under headings.Cost l)
field_under l headings.Enough = number_field (text_under headings.Enough l)

unfoldable pub list_record : ListFindings → List ℕ
list_record l = record_text (map (field_under l) all_headings)

-- a record for each list
unfoldable pub choices_csv_of : List ListFindings → List ℕ
choices_csv_of lists = record_text names ++ flat_map list_record lists
