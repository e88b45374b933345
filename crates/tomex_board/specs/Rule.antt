-- The rule of a board: what holds for its words and for what its seats know, before and after every step. The word i
-- is that of row i, and the word of band k comes k places after the last row's.
use Rattle.std.specs.Prelude.{◌≡◌, ◌≢◌, ℕ, ◌+◌, ◌<◌, ◌≤◌, List, ◌⊎◌, length, slice_index}
use mathlib.Core.Option.{some}
use lib.ListN.{get_elem?}
use Rattle.atomic_table.specs.Table.{State}
use Rattle.tomex_board.specs.declared.mark.Mark.{Mark}
use Rattle.tomex_board.specs.declared.mark.Mark.TheVariants.{Open, Taken, Finished, Dropped}
use Rattle.tomex_board.specs.declared.view.View.{View}
use Rattle.tomex_board.specs.Words.{mark_word, band_word, nothing_yet}
use Rattle.tomex_board.specs.Bands.{floors_of}
use Rattle.tomex_board.specs.Views.{Has}

-- the row is marked finished, with its cycles
abbrev pub IsFinished : List ℕ → List ℕ → ℕ → Type 0
IsFinished cycles words i = slice_index words i ≡ mark_word (Finished (slice_index cycles i))

-- the word drops the row i for a finished one, no dearer and strictly faster
abbrev pub Drops : List ℕ → List ℕ → List ℕ → ℕ → ℕ → Type 0
Drops costs cycles words i w =
    (j : ℕ) × (w ≡ mark_word (Dropped j)) × (j < length costs) × IsFinished cycles words j
    × (slice_index costs j ≤ slice_index costs i) × (slice_index cycles j < slice_index cycles i)

-- the word may be that of the row i
abbrev pub FitsRow : List ℕ → List ℕ → List ℕ → ℕ → ℕ → Type 0
FitsRow costs cycles words i w =
    (w ≡ mark_word Open)
    ⊎ ((w ≡ mark_word Taken) ⊎ ((w ≡ mark_word (Finished (slice_index cycles i))) ⊎ Drops costs cycles words i w))

-- the word may be that of the band k: it is empty, or names a finished row with its cycles, whose cost is at most the
-- floor
abbrev pub FitsBand : List ℕ → List ℕ → List ℕ → ℕ → ℕ → Type 0
FitsBand costs cycles words k w =
    (w ≡ nothing_yet)
    ⊎ ((j : ℕ) × (j < length costs) × (w ≡ band_word (slice_index cycles j) j) × IsFinished cycles words j
    × (slice_index costs j ≤ slice_index (floors_of costs) k))

-- What one seat knows is true of the words: a row in its hand is taken, a row seen not open isn't open, a noted mark
-- is closed and still there, and no band's word is above one that was seen.
pub record IsTrueOf (costs words : List ℕ) (v : View) : Type 0 where
  pub hand : (i : ℕ) → Has v.hand i → (i < length costs) × (slice_index words i ≡ mark_word Taken)
  pub seen : (i : ℕ) → Has v.seen i → (i < length costs) × (slice_index words i ≢ mark_word Open)
  pub marks : (i : ℕ) (m : Mark) → Has v.marks (i, m)
      → (i < length costs) × (2 ≤ mark_word m) × (slice_index words i ≡ mark_word m)
  pub bests : (k w : ℕ) → Has v.bests (k, w) → (k < 64) × (slice_index words (length costs + k) ≤ w)

-- the row is in the hand of a seat that has a number
abbrev pub IsHeld : List View → ℕ → Type 0
IsHeld views i = (a : ℕ) × (v : View) × (x : ℕ) × (get_elem? views a ≡ some v) × Has v.hand i × Has v.share x

pub record IsLawful (costs cycles : List ℕ) (s : State ℕ View) : Type 0 where
  -- a word for each row, and 64 for the bands
  pub words : length s.words ≡ length costs + 64
  -- the marks are lawful
  pub rows : (i : ℕ) → i < length costs → FitsRow costs cycles s.words i (slice_index s.words i)
  pub bands : (k : ℕ) → k < 64 → FitsBand costs cycles s.words k (slice_index s.words (length costs + k))
  pub known : (a : ℕ) (v : View) → get_elem? s.views a ≡ some v → IsTrueOf costs s.words v
  -- a row is in one hand only
  pub alone : (a b : ℕ) (v w : View) (i : ℕ) → get_elem? s.views a ≡ some v → get_elem? s.views b ≡ some w
      → Has v.hand i → Has w.hand i → a ≡ b
  -- numbers are below 32, and no two seats have the same one, not even dropped seats
  pub few : (a : ℕ) (v : View) (x : ℕ) → get_elem? s.views a ≡ some v → Has v.share x → x < 32
  pub apart : (a b : ℕ) (v w : View) (x : ℕ) → get_elem? s.views a ≡ some v → get_elem? s.views b ≡ some w
      → Has v.share x → Has w.share x → a ≡ b
  -- a taken row is in the hand of a seat with a number
  pub held : (i : ℕ) → i < length costs → slice_index s.words i ≡ mark_word Taken → IsHeld s.views i
