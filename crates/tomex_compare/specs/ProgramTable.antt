-- The table of two builds: the instructions that each runs, its least and its greatest cycles, and the differences.
use Rattle.std.specs.Prelude.{ℕ, nat_le, nat_lt, Bool, List, [], ◌∷◌, codes, length, map}
use Rattle.std.specs.Fmt.{decimal}
use Rattle.std.specs.List.{best_of}
use Rattle.tomex_study.specs.Cycles.{total_at}
use Rattle.tomex_study.specs.Program.{Workload, steps_of}
use Rattle.tomex_study.specs.Study.{DesignSpace}
use Rattle.tomex_layout.specs.Table.{TableColumn, table_of}
use Rattle.tomex_layout.specs.Differences.{percent}
use Rattle.tomex_compare.specs.Pairs.{row_numbers}
use Rattle.tomex_compare.specs.declared.extremes.RowCycles.{RowCycles}
use Rattle.tomex_compare.specs.declared.program_table.Heading.{Heading}
use Rattle.tomex_compare.specs.declared.program_table.Heading.TheVariants as headings

-- a program's cycles on a row
abbrev pub cycles_on : DesignSpace → Workload → ℕ → RowCycles
cycles_on s p row = record { row = row; cycles = total_at s p row }

-- on all rows
abbrev pub all_cycles : DesignSpace → Workload → List RowCycles
all_cycles s p = map (cycles_on s p) (row_numbers s)

-- a row is better than those before it if it takes fewer cycles, and worse if it takes no fewer
abbrev pub is_better : RowCycles → RowCycles → Bool
is_better r before = nat_lt r.cycles before.cycles

abbrev pub is_worse : RowCycles → RowCycles → Bool
is_worse r before = nat_le before.cycles r.cycles

-- the best row, of several the first, and the worst, of several the last
unfoldable pub best_row : DesignSpace → Workload → RowCycles
best_row s p = best_of is_better (cycles_on s p 0) (all_cycles s p)

unfoldable pub worst_row : DesignSpace → Workload → RowCycles
worst_row s p = best_of is_worse (cycles_on s p 0) (all_cycles s p)

-- what the table shows of a program: its name, the instructions that it runs, its best row and its worst
pub record BuildProfile : Type 0 where
  pub name : List ℕ
  pub steps : ℕ
  pub best : RowCycles
  pub worst : RowCycles

abbrev pub profile_of : DesignSpace → Workload → BuildProfile
profile_of s p = record {
  name = p.name;
  steps = length (steps_of p);
  best = best_row s p;
  worst = worst_row s p;
}

abbrev pub name_under : Heading → List ℕ
name_under headings.Program = codes "program"
name_under headings.Steps = codes "steps"
name_under headings.Best = codes "best"
name_under headings.BestRow = codes "best_row"
name_under headings.Worst = codes "worst"
name_under headings.WorstRow = codes "worst_row"

-- the texts of a program's line
abbrev pub text_under : Heading → BuildProfile → List ℕ
text_under headings.Program p = p.name
text_under headings.Steps p = decimal p.steps
text_under headings.Best p = decimal p.best.cycles
text_under headings.BestRow p = decimal p.best.row
text_under headings.Worst p = decimal p.worst.cycles
text_under headings.WorstRow p = decimal p.worst.row

-- and of the line of the differences in percent
abbrev pub change_under : Heading → (old new : BuildProfile) → List ℕ
change_under headings.Program old new = codes "%"
change_under headings.Steps old new = percent old.steps new.steps
change_under headings.Best old new = percent old.best.cycles new.best.cycles
change_under headings.BestRow old new = codes "-"
change_under headings.Worst old new = percent old.worst.cycles new.worst.cycles
change_under headings.WorstRow old new = codes "-"

abbrev pub all_headings : List Heading
all_headings =
    headings.Program ∷ headings.Steps ∷ headings.Best ∷ headings.BestRow ∷ headings.Worst ∷ headings.WorstRow ∷ []

unfoldable pub heading_column : (old new : BuildProfile) → Heading → TableColumn
heading_column old new heading = record {
  name = name_under heading;
  entries = text_under heading old ∷ text_under heading new ∷ change_under heading old new ∷ [];
}

unfoldable pub program_table_of : (old new : BuildProfile) → List ℕ
program_table_of old new = table_of 3 (map (heading_column old new) all_headings)
