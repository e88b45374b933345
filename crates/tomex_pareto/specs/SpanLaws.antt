-- Laws of spans.
use Rattle.std.specs.Prelude.{◌≡◌, ◌==◌, ◌&&◌, ℕ, nat_le, List, map}
use Rattle.std.specs.List.{Contains, IsDistinct}
use Rattle.tomex_pareto.specs.Front.{front_of, is_on, is_undominated}
use Rattle.tomex_pareto.specs.declared.line_row.LineRow.{LineRow}
use Rattle.tomex_pareto.specs.Spans.{as_cycles, holds, on_front, span, stays}

-- a value is in a row's span if and only if it is from the least to the limit, and no row dominates the row at it
abbrev pub StayWithin : Type 0
StayWithin = (least limit q : ℕ) (rows : List LineRow) (r : LineRow)
    → holds (span least limit r rows) q ≡ (nat_le least q && nat_le q limit && stays q rows r)

-- with cost and cycles in each other's place it is undominated at the same values
abbrev pub StayEitherWay : Type 0
StayEitherWay = (q : ℕ) (rows : List LineRow) (r : LineRow)
    → is_undominated (map (as_cycles q) rows) (as_cycles q r) ≡ stays q rows r

-- no two rows have the same number
abbrev pub HaveNumbers : List LineRow → Type 0
HaveNumbers rows = IsDistinct (λ a b. a.row == b.row) rows

-- so one of numbered rows is on the front at those values
pub record IsOnFrontWithin (least limit q : ℕ) (rows : List LineRow) (r : LineRow) : Type 0 where
  pub cost : holds (span least limit r rows) q ≡ (nat_le least q && nat_le q limit && on_front q rows r.row)
  pub cycles : holds (span least limit r rows) q
      ≡ (nat_le least q && nat_le q limit && is_on (front_of (map (as_cycles q) rows)) r.row)

abbrev pub AreOnFrontWithin : Type 0
AreOnFrontWithin = (least limit q : ℕ) (rows : List LineRow) (r : LineRow) → HaveNumbers rows → Contains rows r
    → IsOnFrontWithin least limit q rows r
