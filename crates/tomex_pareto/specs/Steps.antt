-- One pass over rows that finds the best one: the one with the flattest step to a row, or the steepest from it.
use Rattle.std.specs.Prelude.{nat_lt, Bool, ◌&&◌, if◌then◌else◌, List, [], ◌∷◌, Option, Some, None}
use Rattle.tomex_pareto.specs.declared.front_row.FrontRow.{FrontRow}
use Rattle.tomex_pareto.specs.Hull.{is_flatter}

-- x passes, and is better than the best one so far
abbrev pub is_next : (passes : FrontRow → Bool) → (better : FrontRow → FrontRow → Bool) → Option FrontRow → FrontRow
    → Bool
is_next passes better None x = passes x
is_next passes better (Some a) x = passes x && better x a

-- the best of the rows that pass, given the best one so far
abbrev pub best_of : (passes : FrontRow → Bool) → (better : FrontRow → FrontRow → Bool) → Option FrontRow
    → List FrontRow → Option FrontRow
best_of passes better best [] = best
best_of passes better best (x ∷ xs) =
    if is_next passes better best x then best_of passes better (Some x) xs else best_of passes better best xs

-- x is cheaper than r
abbrev pub is_cheaper : FrontRow → FrontRow → Bool
is_cheaper r x = nat_lt x.cost r.cost

-- x is costlier than r
abbrev pub is_costlier : FrontRow → FrontRow → Bool
is_costlier r x = nat_lt r.cost x.cost

-- the step from x to r is flatter than that from a
abbrev pub leads_flatter : (r x a : FrontRow) → Bool
leads_flatter r x a = is_flatter x r a r

-- the step from r to x is steeper than that to b
abbrev pub follows_steeper : (r x b : FrontRow) → Bool
follows_steeper r x b = is_flatter r b r x
