-- What is known about a file, by its name.
use Rattle.std.specs.Prelude.{◌≡◌, ℕ, List, Option, Some, None}
use Rattle.std.specs.Borrow.{Bor}

-- the most bytes of a file of the system that is read: 256 MiB
abbrev pub most_bytes : ℕ
most_bytes = 268435456

-- nothing is known; or no file of the name can be read; or the bytes of the file
pub data Known : Type 0 where
  Nothing : Known
  NoFile : Known
  Bytes : List ℕ → Known

-- what is known about a name, by the entry that holds its bytes, if there is one
abbrev pub known_of : Option (Bor (List ℕ) × Bor (List ℕ)) → Known
known_of None = NoFile
known_of (Some entry) = Bytes entry.1.now

-- these bytes may be read if that is known
abbrev pub IsRead : Known → List ℕ → Type 0
IsRead Nothing bytes = Unit {0}
IsRead NoFile bytes = ⊥
IsRead (Bytes held) bytes = bytes ≡ held

-- reading may fail if that is known
abbrev pub IsMissing : Known → Type 0
IsMissing Nothing = Unit {0}
IsMissing NoFile = Unit {0}
IsMissing (Bytes held) = ⊥
