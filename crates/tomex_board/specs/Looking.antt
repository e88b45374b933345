-- The result of a look.
use Rattle.std.specs.Prelude.{◌≡◌, ◌≢◌, ℕ, ◌<◌, ◌≤◌, List, ◌∷◌, ◌++◌, ◌⊎◌, map, length, slice_index}
use Rattle.tomex_board.specs.declared.bound.Bound.{Bound}
use Rattle.tomex_board.specs.declared.mark.Mark.TheVariants.{Finished}
use Rattle.tomex_board.specs.declared.view.View.{View}
use Rattle.tomex_board.specs.Words.{band_word, bound_of, nothing_yet}
use Rattle.tomex_board.specs.Bands.{judges_below}
use Rattle.tomex_board.specs.Views.{Has, Grows, best}

-- a bound for a row of this cost: a row that the seat noted as finished, with its cycles, no dearer
pub record IsBound (costs cycles : List ℕ) (cost : ℕ) (v : View) (b : Bound) : Type 0 where
  pub row : b.row < length costs
  pub its_cycles : b.cycles ≡ slice_index cycles b.row
  pub noted : Has v.marks (b.row, Finished b.cycles)
  pub no_dearer : slice_index costs b.row ≤ cost

-- the word is the least of the seat's best words in the bands that may judge a row of this cost: those
-- whose floor is at most the cost
pub record IsLeastBest (floors : List ℕ) (cost : ℕ) (v : View) (w : ℕ) : Type 0 where
  pub below : (k : ℕ) → k < length floors → slice_index floors k ≤ cost → w ≤ best k v
  pub one : (k : ℕ) × (k < length floors) × (slice_index floors k ≤ cost) × (w ≡ best k v)

-- the bound's word is that least word, and was published
abbrev pub IsLeastBound : List ℕ → ℕ → View → Bound → Type 0
IsLeastBound floors cost v b =
    IsLeastBest floors cost v (band_word b.cycles b.row) × (band_word b.cycles b.row ≢ nothing_yet)

-- nothing was published in these bands
abbrev pub AreEmpty : List ℕ → ℕ → View → Type 0
AreEmpty floors cost v = (k : ℕ) → k < length floors → slice_index floors k ≤ cost → best k v ≡ nothing_yet

-- one more word was seen in each of the bands below m that may judge a row of this cost, in their order, and in no
-- other
pub record SeesEach (floors : List ℕ) (cost m : ℕ) (v w : View) : Type 0 where
  pub found : List (ℕ × ℕ)
  pub bands : map (λ x. x.0) found ≡ judges_below m floors cost
  pub bests : w.bests ≡ found ++ v.bests

-- this word was seen in the band k; if it is a row's, that row is noted as finished, and costs at most the floor
pub record Sees (costs cycles floors : List ℕ) (k found : ℕ) (v w : View) : Type 0 where
  pub hand : w.hand ≡ v.hand
  pub share : w.share ≡ v.share
  pub grown : Grows v w
  pub seen : w.bests ≡ (k, found) ∷ v.bests
  pub here : best k w ≡ found
  pub named : found ≢ nothing_yet → IsBound costs cycles (slice_index floors k) w (bound_of found)

-- the word is the least in the bands below m that may judge a row of this cost, or nothing was found
pub record IsLeastSoFar (costs cycles floors : List ℕ) (cost m : ℕ) (v : View) (w : ℕ) : Type 0 where
  pub below : (k : ℕ) → k < m → slice_index floors k ≤ cost → w ≤ best k v
  pub one : (w ≡ nothing_yet) ⊎ ((k : ℕ) × (k < m) × (slice_index floors k ≤ cost) × (w ≡ best k v))
  pub bound : w ≢ nothing_yet → IsBound costs cycles cost v (bound_of w)
