-- The changes of a machine as CSV: the lines of its table but the machine's own.
use Rattle.std.specs.Prelude.{ℕ, ◌==◌, nat_lt, if◌then◌else◌, List, [], ◌∷◌, ◌++◌, codes, length, map}
use Rattle.std.specs.List.{flat_map}
use Rattle.tomex_pareto.specs.Front.{dominates, is_on}
use Rattle.tomex_pareto.specs.declared.front_row.FrontRow.{FrontRow}
use Rattle.tomex_layout.specs.Csv.{record_text}
use Rattle.tomex_layout.specs.Differences.{signed_difference}
use Rattle.tomex_layout.specs.CsvFields.{flag_field, number_field}
use Rattle.tomex_study.specs.Cycles.{total_at}
use Rattle.tomex_study.specs.Program.{Workload}
use Rattle.tomex_study.specs.Study.{DesignSpace}
use Rattle.tomex_study.specs.StudyFront.{front_of_study, row_at}
use Rattle.tomex_worth.specs.Changes.{changes_of}
use Rattle.tomex_worth.specs.Worth.{all_headings, text_under}
use Rattle.tomex_worth.specs.declared.changes.Change.{Change}
use Rattle.tomex_worth.specs.declared.heading.Heading.{Heading}
use Rattle.tomex_worth.specs.declared.heading.Heading.TheVariants as headings
use Rattle.tomex_worth.specs.declared.kind.Kind.{Kind}
use Rattle.tomex_worth.specs.declared.kind.Kind.TheVariants as kinds

-- what another row is to a machine: a trade if one of the two costs more and takes fewer cycles
abbrev pub kind_of : FrontRow → FrontRow → Kind
kind_of own other =
    if dominates other own then kinds.Better
    else if dominates own other then kinds.Worse
    else if other.cost == own.cost then kinds.Same
    else kinds.Trade

abbrev pub name_of_kind : Kind → List ℕ
name_of_kind kinds.Trade = codes "trade"
name_of_kind kinds.Better = codes "better"
name_of_kind kinds.Worse = codes "worse"
name_of_kind kinds.Same = codes "same"

-- only a trade has a rate
abbrev pub if_trade : Kind → List ℕ → List ℕ
if_trade kinds.Trade rate = rate
if_trade kind rate = []

-- the names of the columns that each study has
abbrev pub change_names : List (List ℕ)
change_names =
    codes "part" ∷ codes "from" ∷ codes "to" ∷ codes "row" ∷ codes "cost" ∷ codes "cycles" ∷ codes "percent"
    ∷ codes "kind" ∷ codes "rate" ∷ codes "front" ∷ []

-- what a change has under a heading of the table: its text there, a number without its plus sign; for the rate also
-- the kind, and for the front 1 or 0
abbrev pub fields_under : DesignSpace → FrontRow → Change → Heading → List (List ℕ)
fields_under s own c headings.Cost = number_field (text_under s own headings.Cost c) ∷ []
fields_under s own c headings.Cycles = number_field (text_under s own headings.Cycles c) ∷ []
fields_under s own c headings.Percent = number_field (text_under s own headings.Percent c) ∷ []
fields_under s own c headings.Rate =
    name_of_kind (kind_of own c.row) ∷ if_trade (kind_of own c.row) (text_under s own headings.Rate c) ∷ []
fields_under s own c headings.Front = flag_field (is_on (front_of_study s) c.row.row) ∷ []
fields_under s own c heading = text_under s own heading c ∷ []

unfoldable pub change_fields : DesignSpace → FrontRow → Change → List (List ℕ)
change_fields s own c = flat_map (fields_under s own c) all_headings

-- the programs that have a column: all if there are several
abbrev pub shown_programs : DesignSpace → List Workload
shown_programs s = if nat_lt 1 (length s.programs) then s.programs else []

abbrev pub cycles_name : Workload → List ℕ
cycles_name p = p.name ++ codes "_cycles"

-- a program's cycles, as a difference
abbrev pub program_field : DesignSpace → FrontRow → Change → Workload → List ℕ
program_field s own c p = number_field (signed_difference (total_at s p own.row) (total_at s p c.row.row))

unfoldable pub change_record : DesignSpace → FrontRow → Change → List ℕ
change_record s own c = record_text (change_fields s own c ++ map (program_field s own c) (shown_programs s))

-- the names of all columns
unfoldable pub names_of : DesignSpace → List (List ℕ)
names_of s = change_names ++ map cycles_name (shown_programs s)

-- a record for each change of the machine of this number
unfoldable pub worth_csv_of : DesignSpace → ℕ → List ℕ
worth_csv_of s n =
    let own = row_at s n in record_text (names_of s) ++ flat_map (change_record s own) (changes_of s own)
