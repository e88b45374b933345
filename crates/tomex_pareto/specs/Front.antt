-- The Pareto front of rows as a function: those that no other row dominates, found by comparing all pairs.
use Rattle.std.specs.Prelude.{ℕ, suc, ◌==◌, nat_le, nat_lt, Bool, not, ◌&&◌, ◌||◌, if◌then◌else◌, List, [], ◌∷◌}
use Rattle.std.specs.List.{filter, list_any}
use Rattle.tomex_pareto.specs.declared.front_row.FrontRow.{FrontRow}

-- a costs no more than b and takes no more cycles, and one of the two is strictly less
abbrev pub dominates : FrontRow → FrontRow → Bool
dominates a b = nat_le a.cost b.cost && nat_le a.cycles b.cycles && (nat_lt a.cost b.cost || nat_lt a.cycles b.cycles)

-- no row dominates it
abbrev pub is_undominated : List FrontRow → FrontRow → Bool
is_undominated rows r = not (list_any (λ q. dominates q r) rows)

-- a stands before b: by cost, then number
abbrev pub comes_before : FrontRow → FrontRow → Bool
comes_before a b = nat_lt a.cost b.cost || (a.cost == b.cost && nat_lt a.row b.row)

-- ordered rows with one more at its place
abbrev pub put : FrontRow → List FrontRow → List FrontRow
put r [] = r ∷ []
put r (q ∷ qs) = if comes_before r q then r ∷ q ∷ qs else q ∷ put r qs

-- by cost, then number
abbrev pub by_cost : List FrontRow → List FrontRow
by_cost [] = []
by_cost (r ∷ rs) = put r (by_cost rs)

-- the rows that none of them dominates, found by comparing all pairs, ordered by cost, then number
unfoldable pub front_of : List FrontRow → List FrontRow
front_of rows = by_cost (filter (is_undominated rows) rows)

-- the row of this number is on the front
abbrev pub is_on : List FrontRow → ℕ → Bool
is_on front n = list_any (λ r. r.row == n) front

-- rows of these costs and cycles, numbered from n on
abbrev pub rows_from : ℕ → List ℕ → List ℕ → List FrontRow
rows_from n (c ∷ cs) (y ∷ ys) = record { row = n; cost = c; cycles = y } ∷ rows_from (suc n) cs ys
rows_from n _ _ = []
