-- Rows with the cycles of an old and a new build, by the ratio of the two: the new build's cycles by the old one's.
use Rattle.std.specs.Prelude.{ℕ, ◌*◌, ◌≤◌, ◌==◌, nat_lt, Bool, ◌&&◌, ◌||◌, if◌then◌else◌, List, [], ◌∷◌, length, map}
use Rattle.std.specs.Prelude.{max, All}
use Rattle.std.specs.List.{IsDistinct, range_with_len}
use Rattle.std.specs.Ordering.{nat_cmp, ordering_then}
use Rattle.std.specs.declared.cmp.Ordering.{Ordering}
use Rattle.tomex_study.specs.Cycles.{total_at}
use Rattle.tomex_study.specs.Program.{Workload}
use Rattle.tomex_study.specs.Study.{DesignSpace}
use Rattle.tomex_compare.specs.declared.pairs.Pair.{Pair}

-- the numbers of a study's rows
abbrev pub row_numbers : DesignSpace → List ℕ
row_numbers s = range_with_len 0 (length s.rows)

-- a row with the cycles of two programs
abbrev pub pair_at : DesignSpace → (old new : Workload) → ℕ → Pair
pair_at s old new row = record { row = row; old = total_at s old row; new = total_at s new row }

-- a's ratio is less than b's
abbrev pub has_less : Pair → Pair → Bool
has_less a b = nat_lt (a.new * b.old) (b.new * a.old)

-- a stands before b: by ratio, then number
abbrev pub goes_before : Pair → Pair → Bool
goes_before a b = has_less a b || (a.new * b.old == b.new * a.old && nat_lt a.row b.row)

-- ordered pairs with one more at its place
abbrev pub put : Pair → List Pair → List Pair
put p [] = p ∷ []
put p (q ∷ qs) = if goes_before p q then p ∷ q ∷ qs else q ∷ put p qs

-- by ratio, then number
abbrev pub by_ratio : List Pair → List Pair
by_ratio [] = []
by_ratio (p ∷ ps) = put p (by_ratio ps)

-- all rows of a study with the cycles of two programs, by ratio, then number
unfoldable pub pairs_of : DesignSpace → (old new : Workload) → List Pair
pairs_of s old new = by_ratio (map (pair_at s old new) (row_numbers s))

-- each has a ratio, and no two have the same number
pub record AreComparable (pairs : List Pair) : Type 0 where
  pub some : All (λ p. 1 ≤ p.old) pairs
  pub numbered : IsDistinct (λ a b. a.row == b.row) pairs

-- the same order for any pairs: cycles of 0, which no program takes, count as 1
abbrev pub order_of : Pair → Pair → Ordering
order_of a b = ordering_then (nat_cmp (a.new * max b.old 1) (b.new * max a.old 1)) (nat_cmp a.row b.row)
