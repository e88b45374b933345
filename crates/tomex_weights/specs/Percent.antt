-- The percentage by which all weights of a study may be wrong at once, each in its own direction, so that a row stays.
use Rattle.std.specs.Prelude.{ℕ}
use Rattle.tomex_pareto.specs.declared.front_row.FrontRow.{FrontRow}
use Rattle.tomex_pareto.specs.Percent.{difference_of, least_of, percent_by}
use Rattle.tomex_pareto.specs.Spans.{swapped}
use Rattle.tomex_study.specs.Cycles.{total_at}
use Rattle.tomex_study.specs.Study.{DesignSpace}
use Rattle.tomex_study.specs.StudyFront.{all_rows}

-- how far the programs' cycles on two rows are apart, each program's times its weight
unfoldable pub difference : DesignSpace → ℕ → ℕ → ℕ
difference s a b = difference_of (λ p. p.weight) (total_at s) s.programs a b

-- how many more cycles a rival takes, in percent of this difference: what counts as a cost here is the cycles
abbrev pub percent_for : DesignSpace → FrontRow → FrontRow → ℕ
percent_for s r j = percent_by (difference s r.row j.row) (swapped r) (swapped j)

-- the percentage by which all weights may be wrong such that a row of the front stays: the least of all rivals
unfoldable pub percent_of : DesignSpace → FrontRow → ℕ
percent_of s r = least_of (percent_for s r) (all_rows s)
