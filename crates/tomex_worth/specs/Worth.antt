-- What one more or one less part is worth on a machine, as a table.
use Rattle.std.specs.Prelude.{ℕ, suc, nat_lt, if◌then◌else◌, List, [], ◌∷◌, ◌++◌}
use Rattle.std.specs.Prelude.{codes, length, map}
use Rattle.std.specs.Fmt.{decimal}
use Rattle.tomex_pareto.specs.Front.{is_on}
use Rattle.tomex_pareto.specs.declared.front_row.FrontRow.{FrontRow}
use Rattle.tomex_study.specs.Cycles.{total_at}
use Rattle.tomex_study.specs.StudyFront.{front_of_study, row_at}
use Rattle.tomex_study.specs.Program.{Workload}
use Rattle.tomex_study.specs.Study.{DesignSpace, config_at}
use Rattle.tomex_layout.specs.Table.{TableColumn, table_of}
use Rattle.tomex_layout.specs.Lists.{entry_text, name_of_list}
use Rattle.tomex_layout.specs.Rates.{rate_text}
use Rattle.tomex_worth.specs.Changes.{changes_of}
use Rattle.tomex_layout.specs.Differences.{percent, signed_difference}
use Rattle.tomex_worth.specs.declared.changes.Change.{Change}
use Rattle.tomex_worth.specs.declared.heading.Heading.{Heading}
use Rattle.tomex_worth.specs.declared.heading.Heading.TheVariants as headings

-- `yes` if a row is on the front
abbrev pub front_text : DesignSpace → FrontRow → List ℕ
front_text s r = if is_on (front_of_study s) r.row then codes "yes" else codes "-"

abbrev pub name_under : Heading → List ℕ
name_under headings.Part = codes "part"
name_under headings.From = codes "from"
name_under headings.To = codes "to"
name_under headings.Row = codes "row"
name_under headings.Cost = codes "cost"
name_under headings.Cycles = codes "cycles"
name_under headings.Percent = codes "%"
name_under headings.Rate = codes "rate"
name_under headings.Front = codes "front"

-- the texts of the machine's own line
abbrev pub own_under : DesignSpace → FrontRow → Heading → List ℕ
own_under s own headings.Row = decimal own.row
own_under s own headings.Cost = decimal own.cost
own_under s own headings.Cycles = decimal own.cycles
own_under s own headings.Front = front_text s own
own_under s own heading = codes "-"

-- and of the line of a change
unfoldable pub text_under : DesignSpace → FrontRow → Heading → Change → List ℕ
text_under s own headings.Part c = name_of_list c.part
text_under s own headings.From c = entry_text (config_at s own.row) c.part
text_under s own headings.To c = entry_text (config_at s c.row.row) c.part
text_under s own headings.Row c = decimal c.row.row
text_under s own headings.Cost c = signed_difference own.cost c.row.cost
text_under s own headings.Cycles c = signed_difference own.cycles c.row.cycles
text_under s own headings.Percent c = percent own.cycles c.row.cycles
text_under s own headings.Rate c = rate_text own c.row
text_under s own headings.Front c = front_text s c.row

unfoldable pub heading_column : DesignSpace → FrontRow → Heading → TableColumn
heading_column s own heading = record {
  name = name_under heading;
  entries = own_under s own heading ∷ map (text_under s own heading) (changes_of s own);
}

abbrev pub all_headings : List Heading
all_headings =
    headings.Part ∷ headings.From ∷ headings.To ∷ headings.Row ∷ headings.Cost ∷ headings.Cycles ∷ headings.Percent
    ∷ headings.Rate ∷ headings.Front ∷ []

unfoldable pub program_column : DesignSpace → FrontRow → Workload → TableColumn
program_column s own p = record {
  name = p.name;
  entries = decimal (total_at s p own.row)
      ∷ map (λ c. signed_difference (total_at s p own.row) (total_at s p c.row.row)) (changes_of s own);
}

-- a column for each program if there are several
abbrev pub program_columns : DesignSpace → FrontRow → List TableColumn
program_columns s own = if nat_lt 1 (length s.programs) then map (program_column s own) s.programs else []

abbrev pub columns_of : DesignSpace → FrontRow → List TableColumn
columns_of s own = map (heading_column s own) all_headings ++ program_columns s own

-- the table of the machine of this number
unfoldable pub worth_table_of : DesignSpace → ℕ → List ℕ
worth_table_of s n =
    table_of (suc (length (changes_of s (row_at s n)))) (columns_of s (row_at s n))
