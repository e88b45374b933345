-- Files that are not what their entries ask for, and programs one after another.
use Rattle.std.proofs.Common.{⊎_elim, ◌≡◌, ◌≢◌, ◌⊎◌, Ok, Err, inl, inr, ℕ, zero, suc, List, [], ◌∷◌, ◌++◌, take, Some}
use Rattle.std.proofs.Common.{None, ◌+◌, ◌<◌, ◌≤◌, ◌∙◌, ap, sym, subst, refl, arith, add-one, length, get_or, map}
use Rattle.std.specs.Prelude.{slice_get, Bool, true, false, MatchBool, Result, IfOk, IfErr, OnErr, String, string_bytes}
use Rattle.std.specs.Global.{Global}
use Rattle.std.specs.declared.alloc.AllocError.{AllocError}
use Rattle.std.proofs.lemmas.List.{length-map, take_all}
use Rattle.std.proofs.lemmas.Option.{slice_get_read, slice_get-map}
use Rattle.tomex_image.specs.Image.{Loaded}
use Rattle.tomex_image.specs.Window.{Span}
use Rattle.tomex_image.specs.Loading.{IsPlacedElf, IsPlacedFlat, is_elf, IsPlaced}
use Rattle.tomex_config.specs.Grid.{grid_of}
use Rattle.tomex_study.specs.Program.{Workload, refusal_of}
use Rattle.tomex_study.specs.declared.program.ProgramError.{ProgramError}
use Rattle.tomex_study.specs.declared.program.ProgramError.TheVariants as programs
use Rattle.tomex_study.specs.Study.{DesignSpace, costs_of}
use Rattle.tomex_document.specs.Program.{ProgramEntry}
use Rattle.tomex_document.specs.Study.{AreProgramsOf, FailsToEnd, IsFileRefusal, IsFirstRefusal, IsProgramOf}
use Rattle.tomex_document.specs.Study.{IsStudyRefusal, IsRefusalOfFiles, IsStudyOf}
use Rattle.tomex_document.specs.declared.error.StudyError.{StudyError}
use Rattle.tomex_document.specs.declared.error.StudyError.TheVariants.{Memory}
use Rattle.tomex_values.specs.declared.error.DocumentError.{DocumentError}
use Rattle.tomex_values.specs.declared.error.DocumentError.TheVariants as documents
use Rattle.tomex_document.specs.Refusals.{IsDocumentRefusal, study_error_of, unfit_as}
use Rattle.tomex_document.specs.Document.{Document, document_of}

-- an image of a file has the window that was asked for
pub in_window : (file : List ℕ) (window : Span) (image : Loaded) → IsPlaced file window image → image.window ≡ window
in_window file window image here = at (is_elf file) here
  where
    at : (b : Bool) → MatchBool b (IsPlacedElf file window image) (IsPlacedFlat file window image) → image.window
        ≡ window
    at true here = here.0
    at false here = here.0

-- one more program
pub one_more : (place : ℕ) (entries : List ProgramEntry) (files : List (List ℕ)) (programs : List Workload)
    (entry : ProgramEntry) (file : List ℕ) (program : Workload)
    → slice_get entries place ≡ Some entry → slice_get files place ≡ Some file
    → AreProgramsOf (take place entries) (take place files) programs → IsProgramOf entry file program
    → AreProgramsOf (take (suc place) entries) (take (suc place) files) (programs ++ program ∷ [])
one_more zero (e ∷ es) (f ∷ fs) [] entry file program entry_is file_is older is =
    let same_entry : e ≡ entry = cc in
    let same_file : f ≡ file = cc in
    rw (same_entry, same_file) (is, tt)
one_more zero (e ∷ es) (f ∷ fs) (p ∷ ps) entry file program entry_is file_is older is = absurd older
one_more (suc place) (e ∷ es) (f ∷ fs) [] entry file program entry_is file_is older is = absurd older
one_more (suc place) (e ∷ es) (f ∷ fs) (p ∷ ps) entry file program entry_is file_is older is =
    (older.0, one_more place es fs ps entry file program entry_is file_is older.1 is)
one_more place [] files programs entry file program entry_is file_is older is =
    absurd (let none : None ≡ Some entry = entry_is in cc)
one_more place (e ∷ es) [] programs entry file program entry_is file_is older is =
    absurd (let none : None ≡ Some file = file_is in cc)

-- the first program that is refused, unless out of memory
pub first_refusal : (place : ℕ) (entries : List ProgramEntry) (files : List (List ℕ)) (programs : List Workload)
    {entry : ProgramEntry} {file : List ℕ} {error : StudyError} → slice_get entries place ≡ Some entry
    → slice_get files place ≡ Some file → AreProgramsOf (take place entries) (take place files) programs
    → (error ≡ Memory) ⊎ IsFileRefusal entry file error → (error ≡ Memory) ⊎ IsFirstRefusal entries files error
first_refusal place entries files programs entry_is file_is older (inl memory) = inl memory
first_refusal place entries files programs {entry} {file} entry_is file_is older (inr refusal) =
    inr (record {
      place = place;
      programs = programs;
      earlier = older;
      entry = entry;
      entry_is = entry_is;
      file = file;
      file_is = file_is;
      refusal = refusal;
    })

-- the same for the file at a place, and for the programs after a push
pub pushed : (place : ℕ) (entries : List ProgramEntry) (files : List (List ℕ)) (programs : List Workload)
    {after : List Workload} {entry : ProgramEntry} {file : List ℕ} (program : Workload)
    → slice_get entries place ≡ Some entry → slice_get files place ≡ Some file
    → AreProgramsOf (take place entries) (take place files) programs → IsProgramOf entry file program
    → after ≡ programs ++ program ∷ [] → AreProgramsOf (take (place + 1) entries) (take (place + 1) files) after
pushed place entries files programs {entry} {file} program entry_is file_is older is grown =
    rw (add-one, grown) (one_more place entries files programs entry file program entry_is file_is older is)

-- a program whose run is refused is reported with its name, if there was memory for it
pub unfit_refused : (entry : ProgramEntry) (file : List ℕ) (name : Result (String Global) AllocError)
    (error : ProgramError) (refusal : StudyError) → IfOk name (λ n. string_bytes n ≡ entry.name)
    → IfOk name (λ n. refusal ≡ unfit_as n error) → OnErr name (refusal ≡ Memory)
    → FailsToEnd entry file (refusal_of error) → (refusal ≡ Memory) ⊎ IsFileRefusal entry file refusal
unfit_refused entry file (Err _) error refusal named with_name without_name fails = inl without_name
unfit_refused entry file (Ok name) programs.Memory refusal named with_name without_name fails = inl with_name
unfit_refused entry file (Ok name) (programs.Fault fault) refusal named with_name without_name fails =
    inr (subst (λ (r : StudyError). IsFileRefusal entry file r) (sym with_name) (named, fails))
unfit_refused entry file (Ok name) programs.TooLong refusal named with_name without_name fails =
    inr (subst (λ (r : StudyError). IsFileRefusal entry file r) (sym with_name) (named, fails))

-- no program is left
pub all_programs : {X : Type 0} (seen : X → List ℕ) (place : ℕ) (entries : List ProgramEntry) (files : List X)
    (programs : List Workload)
    → length files ≡ length entries → length entries ≤ place
    → AreProgramsOf (take place entries) (take place (map seen files)) programs
    → AreProgramsOf entries (map seen files) programs
all_programs seen place entries files programs long past here =
    let count = length-map files seen in
    rw (take_all place entries past, take_all place (map seen files) (omega arith)) at here

-- the item that is read at a place
pub item_is : {X : Type 0} (xs : List X) (place : ℕ) (x : X) → place < length xs → x ≡ get_or xs place x
    → slice_get xs place ≡ Some x
item_is xs place x within read = slice_get_read xs (length xs) place x refl within read

-- and how contracts see it
pub seen_is : {X Y : Type 0} (seen : X → Y) (xs : List X) (n place : ℕ) (x : X) (y : Y) → length xs ≡ n → place < n
    → x ≡ get_or xs place x → y ≡ seen x → slice_get (map seen xs) place ≡ Some y
seen_is seen xs n place x y count within read is =
    let there : place < length xs = omega (arith, count, within) in
    slice_get-map seen xs place ∙ rw (item_is xs place x there read) (ap Some (sym is))

-- a refused document: out of memory, or the refusal says which test failed
pub names_refused : (bytes : List ℕ) (fault : DocumentError) (error : StudyError) → error ≡ study_error_of fault
    → (fault ≢ documents.Memory → document_of bytes ≡ Err fault) → (error ≡ Memory) ⊎ IsDocumentRefusal bytes error
names_refused bytes documents.Memory error same given = inl same
names_refused bytes documents.Syntax error same given = inr (documents.Syntax, given (λ h. cc), same)
names_refused bytes (documents.UnknownKey place) error same given =
    inr (documents.UnknownKey place, given (λ h. cc), same)
names_refused bytes (documents.MissingKey place key) error same given =
    inr (documents.MissingKey place key, given (λ h. cc), same)
names_refused bytes (documents.Kind place key) error same given = inr (documents.Kind place key, given (λ h. cc), same)
names_refused bytes (documents.Range place key) error same given =
    inr (documents.Range place key, given (λ h. cc), same)
names_refused bytes documents.TooMany error same given = inr (documents.TooMany, given (λ h. cc), same)

-- so the study is refused
pub document_refused : (bytes : List ℕ) (files : List (List ℕ)) (fault : DocumentError) (error : StudyError)
    → error ≡ study_error_of fault
    → (fault ≢ documents.Memory → document_of bytes ≡ Err fault) → IsStudyRefusal bytes files error
document_refused bytes files fault error same given =
    ⊎_elim (λ memory. inl memory) (λ refusal. inr (inl refusal)) (names_refused bytes fault error same given)

-- a test of the files fails
files_refused : (bytes : List ℕ) (files : List (List ℕ)) (document : Document) (error : StudyError)
    → document_of bytes ≡ Ok document → (error ≡ Memory) ⊎ IsRefusalOfFiles document files error
    → IsStudyRefusal bytes files error
files_refused bytes files document error read (inl memory) = inl memory
files_refused bytes files document error read (inr refusal) = inr (inr (document, read, refusal))

-- the result of the document and the files is their study
pub study_made : (bytes : List ℕ) (files : List (List ℕ)) (document : Document) (result : Result DesignSpace StudyError)
    → document_of bytes ≡ Ok document
    → IfOk result (λ s. AreProgramsOf document.programs files s.programs × (grid_of document.axes ≡ Ok s.rows)
    × (s.prices ≡ document.prices) × (s.costs ≡ costs_of s.prices s.rows) × (s.wide ≡ document.wide))
    → IfOk result (λ s. IsStudyOf bytes files s)
study_made bytes files document (Ok study) read made = record {
  document = document;
  read = read;
  programs = made.0;
  rows = made.1;
  prices = made.2;
  costs = made.3;
  wide = made.4;
}
study_made bytes files document (Err error) read made = tt

-- or refused
pub study_refused : (bytes : List ℕ) (files : List (List ℕ)) (document : Document)
    (result : Result DesignSpace StudyError) → document_of bytes ≡ Ok document
    → IfErr result (λ error. (error ≡ Memory) ⊎ IsRefusalOfFiles document files error)
    → IfErr result (λ error. IsStudyRefusal bytes files error)
study_refused bytes files document (Ok study) read refusal = tt
study_refused bytes files document (Err error) read refusal = files_refused bytes files document error read refusal

-- as many files as programs, one of which is refused
pub file_refused : (files : List (List ℕ)) (document : Document) (error : StudyError)
    → length files ≡ length document.programs
    → (error ≡ Memory) ⊎ IsFirstRefusal document.programs files error
    → (error ≡ Memory) ⊎ IsRefusalOfFiles document files error
file_refused files document error count (inl memory) = inl memory
file_refused files document error count (inr first) = inr (inr (count, first))

-- a program for each entry
pub length-programs : (entries : List ProgramEntry) (files : List (List ℕ)) (programs : List Workload)
    → AreProgramsOf entries files programs → length programs ≡ length entries
length-programs [] [] [] are = refl
length-programs [] [] (p ∷ ps) are = absurd are
length-programs [] (f ∷ fs) programs are = absurd are
length-programs (e ∷ es) [] programs are = absurd are
length-programs (e ∷ es) (f ∷ fs) [] are = absurd are
length-programs (e ∷ es) (f ∷ fs) (p ∷ ps) are = ap suc (length-programs es fs ps are.1)

-- as many programs as a document has: 1 to 8
pub some_programs : (named entries : List ProgramEntry) (files : List (List ℕ)) (programs : List Workload)
    → 1 ≤ length named → length named ≤ 8 → entries ≡ named → AreProgramsOf entries files programs
    → (1 ≤ length programs) × (length programs ≤ 8)
some_programs named entries files programs some few same are =
    let count : length programs ≡ length named = length-programs entries files programs are ∙ ap length same in
    (omega (arith, count, some), omega (arith, count, few))
