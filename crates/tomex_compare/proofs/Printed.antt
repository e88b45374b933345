-- The two tables with an empty line between them.
use Rattle.std.proofs.Common.{◌≡◌, ◌∙◌, ap, ap₂, ℕ, List, [], ◌∷◌, ◌++◌, append_assoc, Some, slice_get}
use Rattle.tomex_study.specs.Program.{Workload}
use Rattle.tomex_study.specs.Study.{DesignSpace}
use Rattle.tomex_compare.specs.Compare.{compare_table_of, tables_of}
use Rattle.tomex_compare.specs.GroupCsv.{compare_csv_of, group_csv_of}
use Rattle.tomex_compare.specs.GroupTable.{group_table_of}
use Rattle.tomex_compare.specs.Groups.{RowGroup, groups_of}
use Rattle.tomex_compare.specs.ProgramTable.{profile_of, program_table_of}

pub printed : (s : DesignSpace) (a b : ℕ) (old new : Workload) (first second pushed all : List ℕ)
    (groups : List RowGroup) → slice_get s.programs a ≡ Some old → slice_get s.programs b ≡ Some new
    → first ≡ program_table_of (profile_of s old) (profile_of s new) → groups ≡ groups_of s old new
    → second ≡ group_table_of groups → pushed ≡ first ++ 10 ∷ [] → all ≡ pushed ++ second
    → all ≡ compare_table_of s a b
unfolding compare_table_of tables_of
printed s a b old new first second pushed all groups at_a at_b one those two line whole =
    rw (at_a, at_b)
    (whole ∙ (ap (λ (t : List ℕ). t ++ second) line
    ∙ (append_assoc first (10 ∷ []) second
    ∙ ap₂ (λ (t u : List ℕ). t ++ 10 ∷ u) one (two ∙ ap group_table_of those))))

-- the groups as CSV
pub printed_csv : (s : DesignSpace) (a b : ℕ) (old new : Workload) (text : List ℕ) (groups : List RowGroup)
    → slice_get s.programs a ≡ Some old → slice_get s.programs b ≡ Some new → groups ≡ groups_of s old new
    → text ≡ group_csv_of groups → text ≡ compare_csv_of s a b
unfolding compare_csv_of
printed_csv s a b old new text groups at_a at_b those is = rw (at_a, at_b) (is ∙ ap group_csv_of those)
