-- What a seat knows after a row was finished.
use Rattle.std.specs.Prelude.{◌≡◌, ℕ, List, min}
use Rattle.tomex_board.specs.declared.mark.Mark.TheVariants.{Finished}
use Rattle.tomex_board.specs.declared.view.View.{View}
use Rattle.tomex_board.specs.Words.{band_word}
use Rattle.tomex_board.specs.Bands.{IsBandOf}
use Rattle.tomex_board.specs.Views.{after_closing, after_seeing}

-- the row left the hand with its mark, and then its word went into its band, if it has one: the smaller of the word
-- found there and its own was seen
pub record IsFinishing (floors : List ℕ) (cost i cycles : ℕ) (v w : View) : Type 0 where
  pub published : (k : ℕ) → IsBandOf floors cost k
      → (found : ℕ) × (w ≡ after_seeing k (min found (band_word cycles i)) (after_closing i (Finished cycles) v))
  pub unpublished : ((k : ℕ) → ¬ IsBandOf floors cost k) → w ≡ after_closing i (Finished cycles) v
