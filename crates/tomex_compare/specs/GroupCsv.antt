-- The groups of rows as CSV: the table of groups.
use Rattle.std.specs.Prelude.{ℕ, if◌then◌else◌, List, [], ◌++◌, codes, map, slice_get, Option, Some}
use Rattle.std.specs.List.{flat_map}
use Rattle.std.specs.Str.{bytes_eq}
use Rattle.tomex_layout.specs.CsvFields.{number_field}
use Rattle.tomex_layout.specs.Csv.{record_text}
use Rattle.tomex_study.specs.Program.{Workload}
use Rattle.tomex_study.specs.Study.{DesignSpace}
use Rattle.tomex_compare.specs.GroupTable.{all_headings, name_under, text_under}
use Rattle.tomex_compare.specs.Groups.{RowGroup, groups_of}
use Rattle.tomex_compare.specs.declared.group_table.Heading.{Heading}
use Rattle.tomex_compare.specs.declared.group_table.Heading.TheVariants as headings

-- the rows of the group `all` have no value in common
abbrev pub value_field : RowGroup → List ℕ
value_field g = if bytes_eq g.part (codes "all") then [] else g.value

-- a group's text in the table; a ratio without its plus sign, and nothing where there is no ratio and no row
abbrev pub field_under : RowGroup → Heading → List ℕ
field_under g headings.Value = value_field g
field_under g headings.Best = number_field (text_under headings.Best g)
field_under g headings.BestRow = number_field (text_under headings.BestRow g)
field_under g headings.Median = number_field (text_under headings.Median g)
field_under g headings.Worst = number_field (text_under headings.Worst g)
field_under g headings.WorstRow = number_field (text_under headings.WorstRow g)
field_under g heading = text_under heading g

unfoldable pub group_record : RowGroup → List ℕ
group_record g = record_text (map (field_under g) all_headings)

-- a record for each group
unfoldable pub group_csv_of : List RowGroup → List ℕ
group_csv_of groups = record_text (map name_under all_headings) ++ flat_map group_record groups

-- of the programs at two places; of no program there is none
abbrev pub csv_of : DesignSpace → (old new : Option Workload) → List ℕ
csv_of s (Some old) (Some new) = group_csv_of (groups_of s old new)
csv_of s _ _ = []

unfoldable pub compare_csv_of : DesignSpace → (old new : ℕ) → List ℕ
compare_csv_of s old new = csv_of s (slice_get s.programs old) (slice_get s.programs new)
