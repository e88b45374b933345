-- The names are in their order.
use Rattle.std.proofs.Common.{◌≡◌, ℕ, List, [], ◌∷◌, ◌++◌, append_assoc, map}
use Rattle.std.specs.Prelude.{codes}
use Rattle.tomex_study.specs.Study.{DesignSpace}
use Rattle.tomex_texts.specs.FrontReport.{row_columns}
use Rattle.tomex_texts.specs.RowsReport.{columns_of, cycles_column}
use Rattle.tomex_texts.proofs.rows_header.columns.Goals as goal

columns_are : (s : DesignSpace) {f0 f1 f2 f3 : List (List ℕ)} → f0 ≡ [] → f1 ≡ f0 ++ row_columns s.wide
    → f2 ≡ f1 ++ map cycles_column s.programs → f3 ≡ f2 ++ (codes "front" ∷ codes "hull" ∷ [])
    → f3 ≡ columns_of s
unfolding columns_of
columns_are s none row cycles flags = rw (flags, cycles, row, none)
    (append_assoc (row_columns s.wide) (map cycles_column s.programs) (codes "front" ∷ codes "hull" ∷ []))

pub returns : goal.returns
returns g c =
    columns_are c.args.study.now c.new-fields.ensures.fields
    (rw c.wide.ensures.value at c.in_ok-push_row_columns.ensures.fields)
    (rw c.programs.ensures.value at c.in_ok-push_cycles_columns.ensures.fields)
    (rw c.as_slice.ensures at c.in_ok-push_names.ensures.fields)
