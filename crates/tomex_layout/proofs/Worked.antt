-- The columns of two rows, and some percentages, computed by the definitions themselves.
use Rattle.std.proofs.Common.{◌≡◌, refl, ℕ, [], ◌∷◌}
use Rattle.std.specs.Prelude.{codes}
use Rattle.std.specs.Fmt.{digits}
use Rattle.tomex_pareto.specs.declared.front_row.FrontRow.{FrontRow}
use Rattle.tomex_layout.specs.RowColumns.{heading_column, percent_text, row_columns}

abbrev row : ℕ → ℕ → ℕ → FrontRow
row n cost cycles = record { row = n; cost = cost; cycles = cycles }

columns : row_columns (row 2 50 13 ∷ row 6 60 11 ∷ [])
    ≡ record { name = codes "row"; entries = codes "now" ∷ codes "2" ∷ codes "6" ∷ [] }
    ∷ record { name = codes "cost"; entries = codes "-" ∷ codes "50" ∷ codes "60" ∷ [] }
    ∷ record { name = codes "cycles"; entries = codes "-" ∷ codes "13" ∷ codes "11" ∷ [] }
    ∷ []
unfolding heading_column digits
columns = refl

percents : percent_text 0 ∷ percent_text 45 ∷ percent_text 99 ∷ percent_text 100 ∷ []
    ≡ codes "0%" ∷ codes "45%" ∷ codes "99%" ∷ codes "any" ∷ []
unfolding digits
percents = refl
