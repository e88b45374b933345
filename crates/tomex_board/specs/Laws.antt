-- Laws of the board's rule and of its floors.
use Rattle.std.specs.Prelude.{◌≡◌, ◌≢◌, ℕ, ◌<◌, ◌≤◌, List, length, map, take, min, slice_index}
use mathlib.Core.Option.{some}
use lib.ListN.{get_elem?}
use Rattle.atomic_table.specs.Table.{State}
use Rattle.tomex_board.specs.declared.mark.Mark.{Mark}
use Rattle.tomex_board.specs.declared.mark.Mark.TheVariants.{Open}
use Rattle.tomex_board.specs.declared.view.View.{View}
use Rattle.tomex_board.specs.Words.{mark_word, mark_of}
use Rattle.tomex_board.specs.Marks.{AreLawful}
use Rattle.tomex_board.specs.Bands.{distinct_costs, floors_of, IsBandOf}
use Rattle.tomex_board.specs.Views.{Has, KnowsNotOpen, best, joined_view}
use Rattle.tomex_board.specs.Rule.{IsLawful}

-- at every moment the words of the rows are those of lawful marks
abbrev pub MarksAreLawful : Type 0
MarksAreLawful =
    (costs cycles : List ℕ) (s : State ℕ View) → IsLawful costs cycles s
    → AreLawful costs cycles (map mark_of (take (length costs) s.words))

-- a row that any seat noted isn't open, so no later claim of it is true
abbrev pub NotedIsNotOpen : Type 0
NotedIsNotOpen =
    (costs cycles : List ℕ) (s : State ℕ View) (a : ℕ) (v : View) (i : ℕ) → IsLawful costs cycles s
    → get_elem? s.views a ≡ some v → KnowsNotOpen v i → slice_index s.words i ≢ mark_word Open

-- a row is in the hand of one seat only
abbrev pub HandsAreApart : Type 0
HandsAreApart =
    (costs cycles : List ℕ) (s : State ℕ View) (a b : ℕ) (v w : View) (i : ℕ) → IsLawful costs cycles s
    → get_elem? s.views a ≡ some v → get_elem? s.views b ≡ some w → Has v.hand i → Has w.hand i → a ≡ b

-- no two marks have one word
abbrev pub WordsSayMarks : Type 0
WordsSayMarks = (m : Mark) → mark_of (mark_word m) ≡ m

-- the best word of a joined seat is the smaller of the two
abbrev pub JoinTakesLesserBest : Type 0
JoinTakesLesserBest = (v w : View) (k : ℕ) → best k (joined_view v w) ≡ min (best k v) (best k w)

-- the distinct costs are the costs and no others
abbrev pub CostsAreKept : Type 0
CostsAreKept =
    (costs : List ℕ) (c : ℕ)
    → (Has costs c → Has (distinct_costs costs) c) × (Has (distinct_costs costs) c → Has costs c)

-- and rise, so that each occurs once
abbrev pub DistinctCostsRise : Type 0
DistinctCostsRise =
    (costs : List ℕ) (j k : ℕ) → j < k → k < length (distinct_costs costs)
    → slice_index (distinct_costs costs) j < slice_index (distinct_costs costs) k

-- floors rise
abbrev pub FloorsRise : Type 0
FloorsRise =
    (costs : List ℕ) (j k : ℕ) → j < k → k < length (floors_of costs)
    → slice_index (floors_of costs) j < slice_index (floors_of costs) k

-- so the band of a cost has the least floor that is at least the cost
abbrev pub BandIsLeast : Type 0
BandIsLeast =
    (costs : List ℕ) (cost j k : ℕ) → IsBandOf (floors_of costs) cost k → j < length (floors_of costs)
    → cost ≤ slice_index (floors_of costs) j → slice_index (floors_of costs) k ≤ slice_index (floors_of costs) j
