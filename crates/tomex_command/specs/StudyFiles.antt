-- The study in a file of some name, with the files that it names itself.
use Rattle.std.specs.Prelude.{◌≡◌, ◌≢◌, ◌⊎◌, ℕ, List, Ok, string_bytes}
use Rattle.tomex_study.specs.Study.{DesignSpace}
use Rattle.tomex_document.specs.Document.{file_names_of}
use Rattle.tomex_document.specs.Refusals.{IsDocumentRefusal}
use Rattle.tomex_document.specs.Study.{IsStudyOf, IsStudyRefusal}
use Rattle.tomex_document.specs.declared.error.StudyError.{StudyError}
use Rattle.tomex_document.specs.declared.error.StudyError.TheVariants as studies
use Rattle.tomex_command.specs.declared.failure.Failure.{Failure}
use Rattle.tomex_command.specs.declared.failure.Failure.TheVariants.{CannotRead, Study, Memory}
use Rattle.tomex_command.specs.Reading.{IsUnread, AreRead, IsFirstMissing}
use Rattle.tomex_streams.specs.Files.{Known, IsRead}

-- the study's file was read, and names these files
pub record Names (file : List ℕ → Known) (study : List ℕ) (bytes : List ℕ) (names : List (List ℕ)) : Type 0 where
  pub read : IsRead (file study) bytes
  pub named : file_names_of bytes ≡ Ok names

-- a study's bytes, and those of the files that it names, in order
pub record AreSources (file : List ℕ → Known) (study : List ℕ) (bytes : List ℕ) (contents : List (List ℕ))
    : Type 0 where
  pub names : List (List ℕ)
  pub named : Names file study bytes names
  pub read : AreRead file names contents

-- the study of a file, and the contents of the files that it names
pub record IsStudyWith (file : List ℕ → Known) (name : List ℕ) (study : DesignSpace) (contents : List (List ℕ))
    : Type 0 where
  pub bytes : List ℕ
  pub sources : AreSources file name bytes contents
  pub stands : IsStudyOf bytes contents study

-- the study of these files
pub record IsStudyIn (file : List ℕ → Known) (name : List ℕ) (study : DesignSpace) : Type 0 where
  pub bytes : List ℕ
  pub contents : List (List ℕ)
  pub sources : AreSources file name bytes contents
  pub stands : IsStudyOf bytes contents study

-- the study's bytes are refused before they name any file
pub record IsRefusedDocument (file : List ℕ → Known) (name : List ℕ) (error : StudyError) : Type 0 where
  pub bytes : List ℕ
  pub read : IsRead (file name) bytes
  pub refused : IsDocumentRefusal bytes error

-- the study's bytes or the files are refused once all files are read
pub record IsRefusedStudy (file : List ℕ → Known) (name : List ℕ) (error : StudyError) : Type 0 where
  pub bytes : List ℕ
  pub contents : List (List ℕ)
  pub sources : AreSources file name bytes contents
  pub refused : IsStudyRefusal bytes contents error

-- a file that the study names is the first that can't be read
pub record IsWithoutFile (file : List ℕ → Known) (name : List ℕ) (missing : List ℕ) : Type 0 where
  pub bytes : List ℕ
  pub names : List (List ℕ)
  pub named : Names file name bytes names
  pub first : IsFirstMissing file names missing

-- when each failure comes; memory may run out at any time
abbrev pub IsStudyFailure : (List ℕ → Known) → List ℕ → Failure → Type 0
IsStudyFailure file name (CannotRead missing) =
    IsUnread file name (CannotRead missing) ⊎ IsWithoutFile file name (string_bytes missing)
IsStudyFailure file name (Study error) =
    error ≢ studies.Memory → IsRefusedDocument file name error ⊎ IsRefusedStudy file name error
IsStudyFailure file name Memory = Unit {0}
IsStudyFailure file name _ = ⊥
