-- What a seat knows, and how each kind of step changes it.
use Rattle.std.specs.Prelude.{◌≡◌, ◌≢◌, ℕ, ◌<◌, ◌≤◌, ◌==◌, List, [], ◌∷◌, ◌++◌, ◌⊎◌, if◌then◌else◌, min}
use Rattle.std.specs.List.{range_with_len}
use Rattle.tomex_board.specs.declared.mark.Mark.{Mark}
use Rattle.tomex_board.specs.declared.mark.Mark.TheVariants.{Open, Taken, Finished, Dropped}
use Rattle.tomex_board.specs.declared.view.View.{View}
use Rattle.tomex_board.specs.Words.{band_word, nothing_yet}

-- the list has the value
abbrev pub Has : {X : Type 0} → List X → X → Type 0
Has [] x = ⊥
Has (y ∷ ys) x = (y ≡ x) ⊎ Has ys x

-- the list without a number
abbrev pub without : ℕ → List ℕ → List ℕ
without i [] = []
without i (x ∷ xs) = if x == i then without i xs else x ∷ without i xs

-- the least of a list that is not empty
abbrev pub least_of : List ℕ → ℕ
least_of [] = 0
least_of (x ∷ []) = x
least_of (x ∷ y ∷ ys) = min x (least_of (y ∷ ys))

-- the seat knows that the row isn't open: it has it in hand, has seen that it isn't open, or has seen its closed mark
abbrev pub KnowsNotOpen : View → ℕ → Type 0
KnowsNotOpen v i = Has v.hand i ⊎ (Has v.seen i ⊎ ((m : Mark) × Has v.marks (i, m)))

-- the least of the words that were seen in the band k
abbrev pub least_in : ℕ → List (ℕ × ℕ) → ℕ
least_in k [] = nothing_yet
least_in k (x ∷ xs) = if x.0 == k then min x.1 (least_in k xs) else least_in k xs

-- the least word of a band that the seat has seen published
abbrev pub best : ℕ → View → ℕ
best k v = least_in k v.bests

-- what was known stays known, and the least word of no band grows
pub record Grows (v w : View) : Type 0 where
  pub noted : (i : ℕ) → KnowsNotOpen v i → KnowsNotOpen w i
  pub marks : (i : ℕ) (m : Mark) → Has v.marks (i, m) → Has w.marks (i, m)
  pub bests : (k : ℕ) → best k w ≤ best k v

-- all 32 numbers are in the share
abbrev pub IsWhole : List ℕ → Type 0
IsWhole share = (x : ℕ) → x < 32 → Has share x

-- the share has two numbers
abbrev pub HasTwo : List ℕ → Type 0
HasTwo share = (x : ℕ) × (y : ℕ) × Has share x × Has share y × (x ≢ y)

-- the first seat of a board: it knows nothing, and has all numbers
abbrev pub first_view : View
first_view = record { hand = []; seen = []; marks = []; bests = []; share = range_with_len 0 32 }

-- a claim was true: the row is in the hand
abbrev pub after_claim : ℕ → View → View
after_claim i v = record v { hand = i ∷ v.hand }

-- the note of a row's mark, if it is closed
abbrev pub closed_note : ℕ → Mark → List (ℕ × Mark)
closed_note i Open = []
closed_note i Taken = []
closed_note i (Finished y) = (i, Finished y) ∷ []
closed_note i (Dropped j) = (i, Dropped j) ∷ []

-- a claim was false: the row was seen not open, with its mark if that is closed
abbrev pub after_failed_claim : ℕ → Mark → View → View
after_failed_claim i m v = record v { seen = i ∷ v.seen; marks = closed_note i m ++ v.marks }

-- the row left the hand, and its new mark is noted
abbrev pub after_closing : ℕ → Mark → View → View
after_closing i m v = record v { hand = without i v.hand; seen = i ∷ v.seen; marks = (i, m) ∷ v.marks }

-- a word was seen in the band k
abbrev pub after_seeing : ℕ → ℕ → View → View
after_seeing k w v = record v { bests = (k, w) ∷ v.bests }

-- the word of a row was seen in the band k, and the row is noted as finished with these cycles
abbrev pub after_seeing_row : ℕ → ℕ → ℕ → View → View
after_seeing_row k row cycles v =
    record v {
      seen = row ∷ v.seen;
      marks = (row, Finished cycles) ∷ v.marks;
      bests = (k, band_word cycles row) ∷ v.bests;
    }

-- the new seat of a split: the same notes, an empty hand, and the least of the numbers
abbrev pub given_view : View → View
given_view v = record v { hand = []; share = least_of v.share ∷ [] }

-- the seat that was split: all that it had except the least of its numbers
abbrev pub kept_view : View → View
kept_view v = record v { share = without (least_of v.share) v.share }

-- two seats that became one: the hand of the first, and the notes and numbers of both
abbrev pub joined_view : View → View → View
joined_view v w = record {
  hand = v.hand;
  seen = v.seen ++ w.seen;
  marks = v.marks ++ w.marks;
  bests = v.bests ++ w.bests;
  share = v.share ++ w.share;
}

-- the rest of a seat that was joined to another: nothing
abbrev pub spent_view : View
spent_view = record { hand = []; seen = []; marks = []; bests = []; share = [] }
