-- The words of marks and of bands, of 64 bits.
use Rattle.std.specs.Prelude.{ℕ, ◌+◌, ◌*◌, ◌/◌, ◌%◌, ◌==◌, if◌then◌else◌}
use Rattle.tomex_board.specs.declared.bound.Bound.{Bound}
use Rattle.tomex_board.specs.declared.mark.Mark.{Mark}
use Rattle.tomex_board.specs.declared.mark.Mark.TheVariants.{Open, Taken, Finished, Dropped}

-- the word of a mark
abbrev pub mark_word : Mark → ℕ
mark_word Open = 0
mark_word Taken = 1
mark_word (Finished cycles) = 4 * cycles + 2
mark_word (Dropped row) = 4 * row + 3

-- the mark of a word
abbrev pub mark_of : ℕ → Mark
mark_of w =
    if w % 4 == 2 then Finished (w / 4) else if w % 4 == 3 then Dropped (w / 4) else if w == 0 then Open else Taken

-- the word that publishes a finished row: its cycles and its number
abbrev pub band_word : ℕ → ℕ → ℕ
band_word cycles row = cycles * 16384 + row

-- the row and the cycles that a published word names
abbrev pub bound_of : ℕ → Bound
bound_of w = record { cycles = w / 16384; row = w % 16384 }

-- the word of a band in which nothing was published, the greatest of 64 bits
abbrev pub nothing_yet : ℕ
nothing_yet = 18446744073709551615
