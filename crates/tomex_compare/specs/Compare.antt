-- Two builds on all rows of a study, as two tables.
use Rattle.std.specs.Prelude.{ℕ, List, [], ◌++◌, codes, slice_get, Option, Some}
use Rattle.tomex_study.specs.Program.{Workload}
use Rattle.tomex_study.specs.Study.{DesignSpace}
use Rattle.tomex_compare.specs.GroupTable.{group_table_of}
use Rattle.tomex_compare.specs.Groups.{groups_of}
use Rattle.tomex_compare.specs.ProgramTable.{profile_of, program_table_of}

-- the table of the two, an empty line, and the table of the groups of rows
unfoldable pub tables_of : DesignSpace → (old new : Workload) → List ℕ
tables_of s old new =
    program_table_of (profile_of s old) (profile_of s new) ++ (codes "\n" ++ group_table_of (groups_of s old new))

-- of no program there is none
abbrev pub text_of : DesignSpace → (old new : Option Workload) → List ℕ
text_of s (Some old) (Some new) = tables_of s old new
text_of s _ _ = []

-- of the programs at two places
unfoldable pub compare_table_of : DesignSpace → (old new : ℕ) → List ℕ
compare_table_of s old new = text_of s (slice_get s.programs old) (slice_get s.programs new)
