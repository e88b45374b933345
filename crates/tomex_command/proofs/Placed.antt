-- The run that is chosen of a study, and the failure if there is none.
use Rattle.std.proofs.Common.{◌≡◌, ◌∙◌, arith, ℕ, List, [], ◌∷◌, length, Some, None, Err, map, refl, subst, sym}
use Rattle.std.specs.Prelude.{Result}
use Rattle.std.specs.List.{position}
use Rattle.std.specs.Str.{bytes_eq}
use Rattle.std.proofs.lemmas.List.{length-map}
use Rattle.tomex_study.specs.Program.{Workload}
use Rattle.tomex_study.specs.Study.{DesignSpace}
use Rattle.tomex_document.specs.Study.{AreProgramsOf}
use Rattle.tomex_document.specs.Program.{ProgramEntry}
use Rattle.tomex_find.specs.RowName.{IsNoRow, row_named}
use Rattle.tomex_find.specs.declared.row_name.RowError.{RowError}
use Rattle.tomex_find.specs.declared.row_name.RowError.TheVariants as rows
use Rattle.tomex_views.proofs.Placed.{none_found}
use Rattle.tomex_streams.specs.Files.{Known}
use Rattle.tomex_command_line.specs.declared.line.one_run.OneRun.{OneRun}
use Rattle.tomex_command.specs.Chosen.{IsUnchosen, row_name}
use Rattle.tomex_command.specs.Statuses.{failure_of_row}
use Rattle.tomex_command.specs.StudyFiles.{IsStudyIn, IsStudyWith}
use Rattle.tomex_command.specs.declared.failure.Failure.{Failure}
use Rattle.tomex_command.specs.declared.failure.Failure.TheVariants.{NoSuchProgram}

-- there are as many files as programs
as_many_files : (entries : List ProgramEntry) (files : List (List ℕ)) (programs : List Workload)
    → AreProgramsOf entries files programs → length files ≡ length programs
as_many_files [] [] [] are = refl
as_many_files (e ∷ es) (f ∷ fs) (p ∷ ps) are = let rest = as_many_files es fs ps are.1 in omega (arith, rest)
as_many_files [] [] (p ∷ ps) are = absurd are
as_many_files [] (f ∷ fs) ps are = absurd are
as_many_files (e ∷ es) [] ps are = absurd are
as_many_files (e ∷ es) (f ∷ fs) [] are = absurd are

-- so it is of a study that was read with its files
pub as_many_in : {Y : Type 0} (file : List ℕ → Known) (name : List ℕ) (study : DesignSpace) (f : Y → List ℕ)
    (files : List Y) → IsStudyWith file name study (map f files) → length files ≡ length study.programs
as_many_in file name study f files is =
    sym (length-map files f) ∙ as_many_files is.stands.document.programs (map f files) study.programs
    is.stands.programs

-- the study that was read with its files is that of the file
pub study_in : (file : List ℕ → Known) (name : List ℕ) (study : DesignSpace) (contents : List (List ℕ))
    → IsStudyWith file name study contents → IsStudyIn file name study
study_in file name study contents with_files = record {
  bytes = with_files.bytes;
  contents = contents;
  sources = with_files.sources;
  stands = with_files.stands;
}

without_row : (study : DesignSpace) (run : OneRun) (error : RowError) → IsNoRow study (row_name run.config) error
    → IsUnchosen study run (failure_of_row error)
without_row study run (rows.NoSuchChoice choice) why = why
without_row study run rows.NoSuchRow why = why
without_row study run (rows.SeveralRows n) why = why
without_row study run rows.Memory why = tt

-- there is no configuration of the name
pub row_unchosen : (study : DesignSpace) (run : OneRun) (error : RowError) (same : Failure)
    → IsNoRow study (row_name run.config) error → same ≡ failure_of_row error → IsUnchosen study run same
row_unchosen study run error same why is =
    subst (λ (f : Failure). IsUnchosen study run f) (sym is) (without_row study run error why)

-- the answer if there is no place
abbrev no_place : Failure → Result ℕ Failure
no_place failure = Err failure

-- then there is the configuration and no program of that name
pub without_program : (study : DesignSpace) (run : OneRun) (number : ℕ) (failure same : Failure)
    → row_named study (row_name run.config) ≡ Some number
    → position (λ p. bytes_eq p.name run.program.now) study.programs ≡ None
    → failure ≡ same → no_place same ≡ no_place NoSuchProgram → IsUnchosen study run failure
without_program study run number failure same row_is none is err =
    let there : failure ≡ NoSuchProgram = cc in
    subst (λ (f : Failure). IsUnchosen study run f) (sym there) (record {
      number = number;
      row_is = row_is;
      program_is = none_found (λ p. bytes_eq p.name run.program.now) study.programs none;
    })
