-- The Pareto front of rows as a relation.
use Rattle.std.specs.Prelude.{◌≡◌, ◌==◌, ◌≤◌, ◌<◌, ◌⊎◌, true, List}
use Rattle.std.specs.List.{AllPairs, Contains, IsDistinct}
use Rattle.tomex_pareto.specs.declared.front_row.FrontRow.{FrontRow}
use Rattle.tomex_pareto.specs.Front.{comes_before}

-- a costs no more than b and takes no more cycles, and one of the two is strictly less
pub record Dominates (a b : FrontRow) : Type 0 where
  pub cost : a.cost ≤ b.cost
  pub cycles : a.cycles ≤ b.cycles
  pub less : (a.cost < b.cost) ⊎ (a.cycles < b.cycles)

-- it is one of the rows, and none of them dominates it
pub record IsUndominated (rows : List FrontRow) (r : FrontRow) : Type 0 where
  pub one : Contains rows r
  pub free : (q : FrontRow) → Contains rows q → Dominates q r → ⊥

-- a stands before b: by cost, then number
abbrev pub ComesBefore : FrontRow → FrontRow → Type 0
ComesBefore a b = comes_before a b ≡ true

-- no two rows have the same number
abbrev pub AreNumbered : List FrontRow → Type 0
AreNumbered rows = IsDistinct (λ a b. a.row == b.row) rows

-- exactly the rows that none of them dominates, by cost, then number
pub record IsFront (rows front : List FrontRow) : Type 0 where
  pub order : AllPairs ComesBefore front
  pub only : (r : FrontRow) → Contains front r → IsUndominated rows r
  pub all : (r : FrontRow) → IsUndominated rows r → Contains front r
