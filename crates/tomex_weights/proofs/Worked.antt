-- The table of some rows, computed by the definitions themselves: machines of examples/explore.toml, with the cycles of
-- its two programs. Each weight is 1.
use Rattle.std.proofs.Common.{◌≡◌, ◌+◌, ◌*◌, ◌||◌, ◌==◌, refl, ℕ, Bool, List, [], ◌∷◌, ◌++◌, map}
use Rattle.std.specs.Prelude.{codes, if◌then◌else◌}
use Rattle.std.specs.Fmt.{digits}
use Rattle.std.specs.Int.{abs_diff}
use Rattle.std.specs.List.{filter}
use Rattle.tomex_layout.specs.Hundredths.{hundredths}
use Rattle.tomex_pareto.specs.Front.{by_cost, front_of, is_on}
use Rattle.tomex_pareto.specs.declared.front_row.FrontRow.{FrontRow}
use Rattle.tomex_layout.specs.RowColumns.{column_of, heading_column, percent_text, row_columns}
use Rattle.tomex_pareto.specs.Percent.{least_of, percent_by}
use Rattle.tomex_pareto.specs.Spans.{settled, span, swapped}
use Rattle.tomex_pareto.specs.declared.line_row.LineRow.{LineRow}
use Rattle.tomex_pareto.specs.declared.spans.ValueSpan.{ValueSpan}
use Rattle.tomex_layout.specs.Table.{TableColumn, aligned_in, spaced_in, table_line, table_of, width_of}
use Rattle.tomex_weights.specs.Spans.{greatest_weight}
use Rattle.tomex_weights.specs.Listed.{has_weights}
use Rattle.tomex_weights.specs.Texts.{span_text}

-- a machine's number and cost, and the cycles of `primes` and `matrix` on it
record Machine : Type 0 where
  row : ℕ
  cost : ℕ
  primes : ℕ
  matrix : ℕ

abbrev machine : ℕ → ℕ → ℕ → ℕ → Machine
machine n c p m = record { row = n; cost = c; primes = p; matrix = m }

abbrev machines : List Machine
machines =
    machine 4 101 31745 22408 ∷ machine 68 109 31745 17224 ∷ machine 128 125 23061 12978
    ∷ machine 132 107 23901 20826 ∷ machine 164 117 23901 20192 ∷ machine 196 115 23901 13614
    ∷ machine 228 125 23901 12836 ∷ machine 260 119 22899 20573 ∷ []

abbrev row_of : Machine → FrontRow
row_of m = record { row = m.row; cost = m.cost; cycles = m.primes + m.matrix }

-- a machine by the weight of each program

abbrev by_primes : Machine → LineRow
by_primes m = record { row = m.row; rest = 100 * m.matrix; times = m.primes; other = m.cost }

abbrev by_matrix : Machine → LineRow
by_matrix m = record { row = m.row; rest = 100 * m.primes; times = m.matrix; other = m.cost }

abbrev primes_span : Machine → ValueSpan
primes_span m = settled (span 1 greatest_weight (by_primes m) (map by_primes machines))

abbrev matrix_span : Machine → ValueSpan
matrix_span m = settled (span 1 greatest_weight (by_matrix m) (map by_matrix machines))

abbrev is_on_front : Machine → Bool
is_on_front m = is_on (front_of (map row_of machines)) m.row

abbrev is_listed : Machine → Bool
is_listed m = is_on_front m || has_weights (primes_span m) || has_weights (matrix_span m)

-- one machine is not listed: 196 costs less, and takes no more cycles for either program
listed : map (λ m. m.row) (filter is_listed machines) ≡ 4 ∷ 68 ∷ 128 ∷ 132 ∷ 196 ∷ 228 ∷ 260 ∷ []
unfolding front_of
listed = refl

order : map (λ r. r.row) (by_cost (map row_of (filter is_listed machines)))
    ≡ 4 ∷ 132 ∷ 68 ∷ 196 ∷ 260 ∷ 128 ∷ 228 ∷ []
unfolding front_of
order = refl

-- the machine of a row, and the texts in its line

abbrev machine_in : List Machine → ℕ → Machine
machine_in [] n = machine n 0 0 0
machine_in (m ∷ ms) n = if m.row == n then m else machine_in ms n

abbrev machine_of : FrontRow → Machine
machine_of r = machine_in machines r.row

abbrev apart : FrontRow → FrontRow → ℕ
apart a b =
    abs_diff (machine_of a).primes (machine_of b).primes + abs_diff (machine_of a).matrix (machine_of b).matrix

abbrev percent_for : FrontRow → FrontRow → ℕ
percent_for r j = percent_by (apart r j) (swapped r) (swapped j)

abbrev all_text : FrontRow → List ℕ
all_text r =
    if is_on_front (machine_of r) then percent_text (least_of (percent_for r) (map row_of machines)) else codes "-"

abbrev shown : List FrontRow
shown = by_cost (map row_of (filter is_listed machines))

abbrev columns : List TableColumn
columns =
    row_columns shown
    ++ column_of (codes "all") (codes "-") all_text shown
    ∷ column_of (codes "primes") (codes "1") (λ r. span_text (primes_span (machine_of r))) shown
    ∷ column_of (codes "matrix") (codes "1") (λ r. span_text (matrix_span (machine_of r))) shown ∷ []

table : table_of 8 columns
    ≡ codes "row  cost  cycles  all       primes      matrix\n"
    ++ (codes "now     -       -    -            1           1\n"
    ++ (codes "  4   101   54153  any          any         any\n"
    ++ (codes "132   107   44727  99%          any         any\n"
    ++ (codes " 68   109   48969    -       ..0.45      2.18..\n"
    ++ (codes "196   115   37515  99%          any         any\n"
    ++ (codes "260   119   43472    -       6.95..      ..0.14\n"
    ++ (codes "128   125   36039  71%  0.17..46.88  0.03..5.91\n"
    ++ codes "228   125   36737    -       ..0.16      5.92..\n")))))))
unfolding table_of table_line aligned_in spaced_in width_of heading_column front_of span_text hundredths digits
table = refl
