-- For which weights of one program, all others as stated, a row is on the front.
use Rattle.std.specs.Prelude.{ℕ, ◌-◌, ◌*◌, List, map}
use Rattle.tomex_pareto.specs.declared.front_row.FrontRow.{FrontRow}
use Rattle.tomex_pareto.specs.declared.line_row.LineRow.{LineRow}
use Rattle.tomex_pareto.specs.declared.spans.ValueSpan.{ValueSpan}
use Rattle.tomex_pareto.specs.Spans.{settled, span}
use Rattle.tomex_study.specs.Study.{DesignSpace}
use Rattle.tomex_study.specs.StudyFront.{all_rows}
use Rattle.tomex_weights.specs.Reweighted.{own_cycles, weight_at}

-- the greatest weight, in hundredths: 1000.00
abbrev pub greatest_weight : ℕ
greatest_weight = 100000

-- a row by a program's weight: its cycles, in hundredths, are those of the other programs, and as often as the weight
-- says those of this one
abbrev pub by_weight : DesignSpace → ℕ → FrontRow → LineRow
by_weight s place r = record {
  row = r.row;
  rest = 100 * (r.cycles - weight_at s place * own_cycles s place r.row);
  times = own_cycles s place r.row;
  other = r.cost;
}

abbrev pub rows_by_weight : DesignSpace → ℕ → List LineRow
rows_by_weight s place = map (by_weight s place) (all_rows s)

-- the weights, from 0.01 to 1000.00, for which a row is on the front; it may be on the front as stated or not
abbrev pub span_of : DesignSpace → ℕ → FrontRow → ValueSpan
span_of s place r = settled (span 1 greatest_weight (by_weight s place r) (rows_by_weight s place))
