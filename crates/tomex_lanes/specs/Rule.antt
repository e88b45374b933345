-- The rule of a deque of rows.
use Rattle.std.specs.Prelude.{◌≡◌, ℕ, Bool, true, List, [], ◌∷◌, ◌++◌}
use mathlib.Core.Option.{some}
use lib.ListN.{get_elem?}
use Rattle.crossbeam_deque.specs.Handles.{Pass, view}
use Rattle.tomex_lanes.specs.declared.known.Known.{Known}

abbrev pub known_list : Bool → List ℕ → Known
known_list filling rows = record { filling = filling; rows = rows }

-- one more row at the end of a list that is being filled
abbrev pub Adds : ℕ → Known → Known → Type 0
Adds row old new = new ≡ known_list true (old.rows ++ row ∷ [])

-- A pass knows the list. A pass that may add to it is the only one, and the deque holds the end of the list.
abbrev pub KnowsList : List ℕ → List ℕ → List Known → Known → Type 0
KnowsList rows after views v = (v.rows ≡ rows) × (v.filling ≡ true → (after ≡ []) × (views ≡ v ∷ []))

-- the deque holds neighbouring places of a list, in order, and each pass knows that list
abbrev pub HoldsNeighbours : List ℕ → List Known → Type 0
HoldsNeighbours items views =
    (rows : List ℕ) × (before : List ℕ) × (after : List ℕ)
    × (rows ≡ before ++ items ++ after)
    × ((port : ℕ) (v : Known) → get_elem? views port ≡ some v → KnowsList rows after views v)

-- the list that a pass knows
abbrev pub pass_rows : {A : Type 0} → Pass ℕ Known A → List ℕ
pass_rows p = (view p).rows
