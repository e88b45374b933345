-- The lower convex hull of a front: the rows that no mix of a cheaper and a costlier row beats.
-- Source: de Berg and others, Computational Geometry, chapter 1 (convex hulls); points are costs and cycles, and the
-- lower hull of a front is what is least for some weights of the two.
use Rattle.std.specs.Prelude.{ℕ, nat_lt, Bool, not, ◌&&◌, ◌+◌, ◌-◌, ◌*◌, ◌≤◌, List}
use Rattle.std.specs.List.{Contains, filter, list_any}
use Rattle.tomex_pareto.specs.declared.front_row.FrontRow.{FrontRow}

-- the step from a to b saves less for 1 of cost than the one from c to d
abbrev pub is_flatter : (a b c d : FrontRow) → Bool
is_flatter a b c d = nat_lt ((a.cycles - b.cycles) * (d.cost - c.cost)) ((c.cycles - d.cycles) * (b.cost - a.cost))

-- r is strictly above the line from a, which is cheaper, to b, which is costlier
abbrev pub lies_above : (a b r : FrontRow) → Bool
lies_above a b r = nat_lt a.cost r.cost && nat_lt r.cost b.cost && is_flatter a r r b

-- no mix of two of these rows beats it
abbrev pub is_unmixed : List FrontRow → FrontRow → Bool
is_unmixed front r = not (list_any (λ a. list_any (λ b. lies_above a b r) front) front)

-- the rows of a front that are on its lower convex hull, in its order
unfoldable pub hull_of : List FrontRow → List FrontRow
hull_of front = filter (is_unmixed front) front

-- it is one of the rows, and none has a smaller cost together with what its cycles cost, if q cycles cost p
pub record IsBestFor (rows : List FrontRow) (p q : ℕ) (r : FrontRow) : Type 0 where
  pub one : Contains rows r
  pub least : (j : FrontRow) → Contains rows j → q * r.cost + p * r.cycles ≤ q * j.cost + p * j.cycles

-- it is so for some cost of some cycles
pub record IsBestForSome (rows : List FrontRow) (r : FrontRow) : Type 0 where
  pub p : ℕ
  pub q : ℕ
  pub some_cost : 1 ≤ p
  pub some_cycles : 1 ≤ q
  pub best : IsBestFor rows p q r
