-- Lanes as contracts see them.
use Rattle.std.specs.Prelude.{ℕ, zero, suc, ◌+◌, ◌-◌, ◌%◌, ◌<◌, ◌≤◌, ◌⊎◌, List, [], ◌∷◌, ◌++◌, All, Contains}
use Rattle.std.specs.List.{flat_map}
use Rattle.tomex_lanes.specs.Rows.{rows_of}

-- a worker's number, the number of rows of all workers together, the list of its own, and the lists of the workers
-- that it steals from, the first one first
pub record Dealt : Type 0 where
  pub worker : ℕ
  pub count : ℕ
  pub rows : List ℕ
  pub others : List (List ℕ)

-- the numbers of `count` rows
abbrev pub AreBelow : ℕ → List ℕ → Type 0
AreBelow count rows = All (λ row. row < count) rows

-- a row of the worker's own list, or of that of a worker that it steals from
abbrev pub IsListed : Dealt → ℕ → Type 0
IsListed l row = Contains l.rows row ⊎ ((rows : List ℕ) × Contains l.others rows × Contains rows row)

-- the lists of the n workers after one, around all workers
abbrev pub others_of : ℕ → ℕ → ℕ → ℕ → List (List ℕ)
others_of workers worker count zero = []
others_of workers worker count (suc n) =
    others_of workers worker count n ++ rows_of workers ((worker + suc n) % workers) count ∷ []

-- a worker's lane, with the lists of the n workers after it
abbrev pub lane_of : ℕ → ℕ → ℕ → ℕ → Dealt
lane_of workers worker count n =
    record {
      worker = worker;
      count = count;
      rows = rows_of workers worker count;
      others = others_of workers worker count n;
    }

-- a lane with one more list to steal from
abbrev pub with_other : Dealt → List ℕ → Dealt
with_other l rows = record l { others = l.others ++ rows ∷ [] }

-- the first n of all workers' lanes, each with the lists of all others
abbrev pub deal : ℕ → ℕ → ℕ → List Dealt
deal workers count zero = []
deal workers count (suc n) = deal workers count n ++ lane_of workers n count (workers - 1) ∷ []

-- each row is on the list of a worker
abbrev pub EachRowIsDealt : Type 0
EachRowIsDealt =
    (workers count row : ℕ) → 1 ≤ workers → row < count
    → Contains (flat_map (λ l. l.rows) (deal workers count workers)) row
