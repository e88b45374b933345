-- Files that are read one after another.
use Rattle.std.specs.Prelude.{◌≡◌, ℕ, List, [], ◌∷◌, take, slice_get, Some, String, string_bytes}
use Rattle.std.specs.Global.{Global}
use Rattle.tomex_streams.specs.Files.{Known, IsRead, IsMissing}
use Rattle.tomex_streams.specs.declared.files.ReadFault.{ReadFault}
use Rattle.tomex_streams.specs.declared.files.ReadFault.TheVariants.{NoFile}
use Rattle.tomex_streams.specs.declared.files.ReadFault.TheVariants as faults
use Rattle.tomex_command.specs.declared.failure.Failure.{Failure}
use Rattle.tomex_command.specs.declared.failure.Failure.TheVariants.{CannotRead, Memory}

-- these are the bytes of the files of these names, in order
abbrev pub AreRead : (List ℕ → Known) → List (List ℕ) → List (List ℕ) → Type 0
AreRead file [] [] = Unit {0}
AreRead file (name ∷ names) (bytes ∷ contents) = IsRead (file name) bytes × AreRead file names contents
AreRead file _ _ = ⊥

-- the failure for a file that was not read: it is missing, and reported by its name, or out of memory
abbrev pub IsUnread : (List ℕ → Known) → List ℕ → Failure → Type 0
IsUnread file name (CannotRead missing) = (string_bytes missing ≡ name) × IsMissing (file name)
IsUnread file name Memory = Unit {0}
IsUnread file name _ = ⊥

-- the failure for a file that was not read, given its name
abbrev pub unread_as : ReadFault → String Global → Failure
unread_as NoFile name = CannotRead name
unread_as faults.Memory name = Memory

-- a file is the first of these names that can't be read
pub record IsFirstMissing (file : List ℕ → Known) (names : List (List ℕ)) (missing : List ℕ) : Type 0 where
  pub place : ℕ
  pub contents : List (List ℕ)
  pub older : AreRead file (take place names) contents
  pub there : slice_get names place ≡ Some missing
  pub is_missing : IsMissing (file missing)

-- the failure if not all files of these names were read
abbrev pub AreUnread : (List ℕ → Known) → List (List ℕ) → Failure → Type 0
AreUnread file names (CannotRead missing) = IsFirstMissing file names (string_bytes missing)
AreUnread file names Memory = Unit {0}
AreUnread file names _ = ⊥
