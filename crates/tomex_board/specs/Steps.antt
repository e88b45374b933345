-- The kinds of step on a board's words. Each is one load, one compare_exchange or one fetch_min on one word, and
-- changes only what its own seat knows. `found` is the word before the step; of a compare_exchange `first` and
-- `second` are the words from which and to which, of a fetch_min `first` is the word that is published. (Splitting
-- and joining are a load of word 0; `Views` has what the seats know then.)
use Rattle.std.specs.Prelude.{◌≡◌, ◌≢◌, ℕ, ◌+◌, ◌<◌, ◌≤◌, List, length, slice_index, min}
use Rattle.atomic_table.specs.Table.{Me, Step}
use Rattle.tomex_board.specs.declared.mark.Mark.{Mark}
use Rattle.tomex_board.specs.declared.mark.Mark.TheVariants.{Open, Taken, Finished, Dropped}
use Rattle.tomex_board.specs.declared.view.View.{View}
use Rattle.tomex_board.specs.Words.{mark_word, band_word, nothing_yet}
use Rattle.tomex_board.specs.Bands.{floors_of, IsBandOf}
use Rattle.tomex_board.specs.Views.{Has, KnowsNotOpen, after_claim, after_failed_claim, after_closing}
use Rattle.tomex_board.specs.Views.{after_seeing, after_seeing_row, best}

-- a seat of the table: what it knows, and its slots, of which a board has none
abbrev pub Seated : Type 0
Seated = Me ℕ View

-- compare_exchange of the row's word from open to taken: an open row goes into the hand, and was not noted as not
-- open; the mark of any other is noted
pub record IsClaim (costs : List ℕ) (st : Step ℕ) (before : Seated) (found : ℕ) (after : Seated) : Type 0 where
  pub row : st.word < length costs
  pub from : st.first ≡ mark_word Open
  pub to : st.second ≡ mark_word Taken
  pub slots : after.1 ≡ before.1
  pub taken : found ≡ mark_word Open → (after.0 ≡ after_claim st.word before.0) × ¬ KnowsNotOpen before.0 st.word
  pub missed : found ≢ mark_word Open
      → (m : Mark) × (m ≢ Open) × (found ≡ mark_word m) × (after.0 ≡ after_failed_claim st.word m before.0)

-- compare_exchange of the word of a row in hand from taken to finished, with the row's cycles
pub record IsFinish (costs cycles : List ℕ) (st : Step ℕ) (before : Seated) (found : ℕ) (after : Seated) : Type 0 where
  pub row : st.word < length costs
  pub hand : Has before.0.hand st.word
  pub from : st.first ≡ mark_word Taken
  pub to : st.second ≡ mark_word (Finished (slice_index cycles st.word))
  pub done : found ≡ st.first
  pub slots : after.1 ≡ before.1
  pub view : after.0 ≡ after_closing st.word (Finished (slice_index cycles st.word)) before.0

-- fetch_min of the word of a band with that of a row whose band it is and that is noted as finished: the best word is
-- then the smaller of the word found and the one published
pub record IsPublish (costs cycles : List ℕ) (st : Step ℕ) (before : Seated) (found : ℕ) (after : Seated) : Type 0 where
  pub row : ℕ
  pub band : ℕ
  pub word : st.word ≡ length costs + band
  pub its_band : IsBandOf (floors_of costs) (slice_index costs row) band
  pub published : st.first ≡ band_word (slice_index cycles row) row
  pub noted : Has before.0.marks (row, Finished (slice_index cycles row))
  pub slots : after.1 ≡ before.1
  pub view : after.0 ≡ after_seeing band (min found st.first) before.0
  pub is_best : best band after.0 ≡ min found st.first

-- load of the word of a band: the best word is then the one found, and the row that it names is noted
-- as finished with its cycles
pub record IsLook (costs cycles : List ℕ) (st : Step ℕ) (before : Seated) (found : ℕ) (after : Seated) : Type 0 where
  pub band : ℕ
  pub word : st.word ≡ length costs + band
  pub has_floor : band < length (floors_of costs)
  pub slots : after.1 ≡ before.1
  pub is_best : best band after.0 ≡ found
  pub empty : found ≡ nothing_yet → after.0 ≡ after_seeing band found before.0
  pub named : found ≢ nothing_yet → (row : ℕ) × (row < length costs) × (found ≡ band_word (slice_index cycles row) row)
      × (slice_index costs row ≤ slice_index (floors_of costs) band)
      × (after.0 ≡ after_seeing_row band row (slice_index cycles row) before.0)

-- compare_exchange of the word of a row in hand from taken to dropped, for a row that is noted as
-- finished, no dearer and strictly faster
pub record IsGiveUp (costs cycles : List ℕ) (st : Step ℕ) (before : Seated) (found : ℕ) (after : Seated) : Type 0 where
  pub judge : ℕ
  pub row : st.word < length costs
  pub hand : Has before.0.hand st.word
  pub from : st.first ≡ mark_word Taken
  pub to : st.second ≡ mark_word (Dropped judge)
  pub noted : Has before.0.marks (judge, Finished (slice_index cycles judge))
  pub no_dearer : slice_index costs judge ≤ slice_index costs st.word
  pub faster : slice_index cycles judge < slice_index cycles st.word
  pub done : found ≡ st.first
  pub slots : after.1 ≡ before.1
  pub view : after.0 ≡ after_closing st.word (Dropped judge) before.0
