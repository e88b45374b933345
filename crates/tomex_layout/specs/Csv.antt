-- Records of CSV, as the crate `csv` writes them by default: commas, a line feed, quotes where needed.
use Rattle.std.specs.Prelude.{◌≡◌, ℕ, List, ◌++◌, false}
use Rattle.csv.specs.declared.writer.Writer.{Writer}
use Rattle.csv.specs.Writing.{row_text, default_writer, writer_setup, writer_under}
use Rattle.csv.specs.Writing.{writer_pending, fields_written, has_written}

-- the text of a record of these fields
abbrev pub record_text : List (List ℕ) → List ℕ
record_text fields = row_text default_writer fields

-- all that a writer into a list of bytes wrote, including what it still buffers
abbrev pub text_written : {W : Type 0} → (W → List ℕ) → Writer W → List ℕ
text_written items writer = items (writer_under writer) ++ writer_pending writer

-- a writer that begins a record
pub record IsReady {W : Type 0} (writer : Writer W) : Type 0 where
  pub setup : writer_setup writer ≡ default_writer
  pub fields : fields_written writer ≡ 0
  pub clean : has_written writer ≡ false
