-- The study of its bytes and its programs' files, or the first test that they fail.
use Rattle.std.specs.Prelude.{◌≡◌, ◌≢◌, ◌⊎◌, ℕ, List, [], ◌∷◌, length, take, slice_get}
use Rattle.std.specs.Prelude.{Some, None, Ok, string_bytes, ⊤}
use Rattle.tomex_image.specs.Image.{Loaded}
use Rattle.tomex_image.specs.Loading.{IsPlaced, refused}
use Rattle.tomex_image.specs.declared.error.ImageError.TheVariants as images
use Rattle.tomex_rvexec.specs.Run.{EndsWithin, IsRefusal}
use Rattle.tomex_rvexec.specs.declared.end.RunError.{RunError}
use Rattle.tomex_rvexec.specs.declared.end.RunError.TheVariants as runs
use Rattle.tomex_config.specs.Grid.{grid_of}
use Rattle.tomex_study.specs.Program.{Workload}
use Rattle.tomex_study.specs.Study.{DesignSpace, costs_of}
use Rattle.tomex_document.specs.declared.error.StudyError.{StudyError}
use Rattle.tomex_document.specs.declared.error.StudyError.TheVariants.{Files, Image, Fault, TooLong, Memory}
use Rattle.tomex_document.specs.Program.{ProgramEntry}
use Rattle.tomex_document.specs.Document.{Document, document_of}
use Rattle.tomex_document.specs.Refusals.{IsDocumentRefusal}

-- the file is what the entry asks for: it is an image of its window, which ends within its limit
pub record IsProgramOf (entry : ProgramEntry) (file : List ℕ) (program : Workload) : Type 0 where
  pub name : program.name ≡ entry.name
  pub placed : IsPlaced file entry.window program.image
  pub accepted : refused file entry.window ≡ None
  pub limit : program.limit ≡ entry.limit
  pub ends : EndsWithin program.image entry.limit
  pub watch : program.watch ≡ entry.watch
  pub weight : program.weight ≡ entry.weight

-- each file is what its entry asks for, in order
abbrev pub AreProgramsOf : List ProgramEntry → List (List ℕ) → List Workload → Type 0
AreProgramsOf [] [] [] = ⊤
AreProgramsOf (entry ∷ entries) (file ∷ files) (program ∷ programs) =
    IsProgramOf entry file program × AreProgramsOf entries files programs
AreProgramsOf _ _ _ = ⊥

-- the study of the bytes and the files
pub record IsStudyOf (bytes : List ℕ) (files : List (List ℕ)) (study : DesignSpace) : Type 0 where
  pub document : Document
  pub read : document_of bytes ≡ Ok document
  pub programs : AreProgramsOf document.programs files study.programs
  pub rows : grid_of document.axes ≡ Ok study.rows
  pub prices : study.prices ≡ document.prices
  pub costs : study.costs ≡ costs_of study.prices study.rows
  pub wide : study.wide ≡ document.wide

-- the file is an image of the entry's window, whose run is refused with this error
abbrev pub FailsToEnd : ProgramEntry → List ℕ → RunError → Type 0
FailsToEnd entry file error =
    (i : Loaded) × IsPlaced file entry.window i × (refused file entry.window ≡ None) × IsRefusal i entry.limit error

-- the file is not what the entry asks for, for this reason
abbrev pub IsFileRefusal : ProgramEntry → List ℕ → StudyError → Type 0
IsFileRefusal entry file (Image name error) =
    (string_bytes name ≡ entry.name) × (error ≢ images.Memory) × (refused file entry.window ≡ Some error)
IsFileRefusal entry file (Fault name fault) =
    (string_bytes name ≡ entry.name) × FailsToEnd entry file (runs.Fault fault)
IsFileRefusal entry file (TooLong name) = (string_bytes name ≡ entry.name) × FailsToEnd entry file runs.TooLong
IsFileRefusal entry file _ = ⊥

-- the first file that is not what its entry asks for; all before it are
pub record IsFirstRefusal (entries : List ProgramEntry) (files : List (List ℕ)) (error : StudyError) : Type 0 where
  pub place : ℕ
  pub programs : List Workload
  pub earlier : AreProgramsOf (take place entries) (take place files) programs
  pub entry : ProgramEntry
  pub entry_is : slice_get entries place ≡ Some entry
  pub file : List ℕ
  pub file_is : slice_get files place ≡ Some file
  pub refusal : IsFileRefusal entry file error

-- there are more or fewer files than programs, or one is not what its entry asks for
abbrev pub IsRefusalOfFiles : Document → List (List ℕ) → StudyError → Type 0
IsRefusalOfFiles document files error =
    ((error ≡ Files) × (length files ≢ length document.programs))
    ⊎ ((length files ≡ length document.programs) × IsFirstRefusal document.programs files error)

-- out of memory, or a test of the document fails, or the document is valid and one of its files' tests fails
abbrev pub IsStudyRefusal : List ℕ → List (List ℕ) → StudyError → Type 0
IsStudyRefusal bytes files error =
    (error ≡ Memory)
    ⊎ (IsDocumentRefusal bytes error
    ⊎ ((document : Document) × (document_of bytes ≡ Ok document) × IsRefusalOfFiles document files error))
