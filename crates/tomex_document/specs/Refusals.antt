-- The refusals that report errors of documents, images and programs.
use Rattle.std.specs.Prelude.{◌≡◌, ℕ, List, Err, String}
use Rattle.std.specs.Global.{Global}
use Rattle.tomex_image.specs.declared.error.ImageError.{ImageError}
use Rattle.tomex_image.specs.declared.error.ImageError.TheVariants as images
use Rattle.tomex_study.specs.declared.program.ProgramError.{ProgramError}
use Rattle.tomex_study.specs.declared.program.ProgramError.TheVariants as programs
use Rattle.tomex_values.specs.declared.error.DocumentError.{DocumentError}
use Rattle.tomex_values.specs.declared.error.DocumentError.TheVariants as documents
use Rattle.tomex_document.specs.Document.{document_of}
use Rattle.tomex_document.specs.declared.error.StudyError.{StudyError}
use Rattle.tomex_document.specs.declared.error.StudyError.TheVariants.{Syntax, UnknownKey, MissingKey, Kind, Range}
use Rattle.tomex_document.specs.declared.error.StudyError.TheVariants.{TooMany, Image, Fault, TooLong, Memory}

abbrev pub study_error_of : DocumentError → StudyError
study_error_of documents.Syntax = Syntax
study_error_of (documents.UnknownKey place) = UnknownKey place
study_error_of (documents.MissingKey place key) = MissingKey place key
study_error_of (documents.Kind place key) = Kind place key
study_error_of (documents.Range place key) = Range place key
study_error_of documents.TooMany = TooMany
study_error_of documents.Memory = Memory

-- a test of the document fails, and the refusal says which
abbrev pub IsDocumentRefusal : List ℕ → StudyError → Type 0
IsDocumentRefusal bytes error = (fault : DocumentError) × (document_of bytes ≡ Err fault) ×
    (error ≡ study_error_of fault)

-- the refusal of a file that can't be loaded, with the program's name
abbrev pub load_error : String Global → ImageError → StudyError
load_error name images.Memory = Memory
load_error name error = Image name error

-- and that of a program whose run faults or doesn't end
abbrev pub unfit_as : String Global → ProgramError → StudyError
unfit_as name (programs.Fault fault) = Fault name fault
unfit_as name programs.TooLong = TooLong name
unfit_as name programs.Memory = Memory
