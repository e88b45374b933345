-- Texts and writers, as they are after a piece more.
use Rattle.std.specs.Prelude.{◌≡◌, ℕ, List, ◌++◌, String, Vec, string_bytes}
use Rattle.csv.specs.declared.writer.Writer.{Writer}
use Rattle.tomex_layout.specs.Csv.{text_written}

-- a text is what it was, and the piece after it
abbrev pub Appends : {A : Type 0} → List ℕ → String A → String A → Type 0
Appends piece old new = string_bytes new ≡ string_bytes old ++ piece

-- so is what a writer into a list of bytes has written
abbrev pub Writes : {A : Type 0} → List ℕ → Writer (Vec ℕ A) → Writer (Vec ℕ A) → Type 0
Writes piece old new = text_written (λ v. v.items) new ≡ text_written (λ v. v.items) old ++ piece
