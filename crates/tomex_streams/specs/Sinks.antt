-- The effect of a put on a sink's count of faults, and of a write on a sink.
use Rattle.std.specs.Prelude.{◌≡◌, ◌⊎◌, ℕ, ◌-◌, ◌^◌, ◌<◌, List, length, take, Option}
use Rattle.std.specs.Io.KnownBytes.{Appends}

-- a count of 64 bits, which stops at its greatest value, went up
abbrev pub Rises : ℕ → ℕ → Type 0
Rises old new = old < 2 ^ 64 - 1 → old < new

-- a sink as contracts see it: the bytes that it took, if they are known, and its count of faults
pub record Seen : Type 0 where
  pub taken : Option (List ℕ)
  pub faults : ℕ

-- it took the whole text, and no put was a fault
abbrev pub IsWhole : List ℕ → Seen → Seen → Type 0
IsWhole text old new = Appends old.taken new.taken text × (new.faults ≡ old.faults)

-- it took a first part of the text, and then a put was a fault
pub record IsCut (text : List ℕ) (old new : Seen) : Type 0 where
  pub count : ℕ
  pub part : count < length text
  pub taken : Appends old.taken new.taken (take count text)
  pub fault : Rises old.faults new.faults

-- the text was written as far as the sink took it
abbrev pub IsWritten : List ℕ → Seen → Seen → Type 0
IsWritten text old new = IsWhole text old new ⊎ IsCut text old new
