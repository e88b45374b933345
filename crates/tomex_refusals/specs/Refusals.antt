-- All refusals of the program, and how to find a text's.
use Rattle.std.specs.Prelude.{◌≡◌, ◌⊎◌, ℕ, List, [], ◌∷◌, ◌++◌, codes, Option, Some, None}
use Rattle.std.specs.List.{flat_map}
use Rattle.tomex_refusals.specs.declared.commands.CommandRefusal.TheVariants as commands
use Rattle.tomex_refusals.specs.declared.faults.FaultRefusal.TheVariants as faults
use Rattle.tomex_refusals.specs.declared.images.ImageRefusal.TheVariants as images
use Rattle.tomex_refusals.specs.declared.refusal.Refusal.{Refusal}
use Rattle.tomex_refusals.specs.declared.refusal.Refusal.TheVariants.{Command, Image, Fault, Study, Status}
use Rattle.tomex_refusals.specs.declared.studies.StudyRefusal.TheVariants as studies
use Rattle.tomex_refusals.specs.declared.statuses.ExitStatus.TheVariants as statuses
use Rattle.tomex_refusals.specs.Commands as of_commands
use Rattle.tomex_refusals.specs.Faults as of_faults
use Rattle.tomex_refusals.specs.Images as of_images
use Rattle.tomex_refusals.specs.Studies as of_studies
use Rattle.tomex_refusals.specs.Statuses as of_statuses
use Rattle.tomex_refusals.specs.Looking.{HasWords}

-- in the order in which they are looked for: those with a name in them first
abbrev pub all_refusals : List Refusal
all_refusals =
    Command commands.CannotRead ∷ Command commands.NoSuchChoice ∷ Command commands.BadWindow ∷ Command commands.TooLong
    ∷ Command commands.NoSuchRow ∷ Command commands.SeveralRows ∷ Command commands.NoSuchProgram
    ∷ Command commands.NoSymbols
    ∷ Command commands.NoSuchStep ∷ Command commands.NoEnd ∷ Command commands.CodeOverwritten
    ∷ Command commands.NoRoom ∷ Command commands.PictureTooLarge ∷ Command commands.TableTooLarge
    ∷ Command commands.CyclePastEnd ∷ Command commands.CannotWrite ∷ Command commands.OnTerminal
    ∷ Command commands.ThreadRefused
    ∷ Command commands.OutOfMemory ∷ Command commands.NoSuchRefusal
    ∷ Image images.Empty ∷ Image images.TooLarge ∷ Image images.Truncated ∷ Image images.NotRiscv
    ∷ Image images.NotExecutable ∷ Image images.HeaderSize ∷ Image images.Dynamic ∷ Image images.TooManySegments
    ∷ Image images.Segment ∷ Image images.Overlap ∷ Image images.Entry ∷ Fault faults.Fetch ∷ Fault faults.Illegal
    ∷ Fault faults.MisalignedTarget ∷ Fault faults.Access ∷ Study studies.NotToml ∷ Study studies.UnknownKey
    ∷ Study studies.Missing ∷ Study studies.WrongKind ∷ Study studies.OutOfRange ∷ Study studies.TooMany
    ∷ Study studies.NumberOfFiles ∷ Status statuses.Input ∷ Status statuses.Line ∷ Status statuses.System ∷ []

-- the words by which a refusal is known
abbrev pub words_of : Refusal → List ℕ
words_of (Command refusal) = of_commands.words_of refusal
words_of (Image refusal) = of_images.words_of refusal
words_of (Fault refusal) = of_faults.words_of refusal
words_of (Study refusal) = of_studies.words_of refusal
words_of (Status status) = of_statuses.words_of status

-- its form, with names in place of the parts that vary
abbrev pub form_of : Refusal → List ℕ
form_of (Command refusal) = of_commands.form_of refusal
form_of (Image refusal) = of_images.words_of refusal
form_of (Fault refusal) = of_faults.form_of refusal
form_of (Study refusal) = of_studies.form_of refusal
form_of (Status status) = of_statuses.words_of status

-- the advice on it: its meaning, the usual causes, and what to do
abbrev pub advice_of : Refusal → List ℕ
advice_of (Command refusal) = of_commands.advice_of refusal
advice_of (Image refusal) = of_images.advice_of refusal
advice_of (Fault refusal) = of_faults.advice_of refusal
advice_of (Study refusal) = of_studies.advice_of refusal
advice_of (Status status) = of_statuses.advice_of status

-- its words are somewhere in a text; capitals are as small letters
abbrev pub IsIn : List ℕ → Refusal → Type 0
IsIn text refusal = HasWords text (words_of refusal)

-- the first of some refusals that is in a text, if one is
unfoldable pub IsFirstIn : List ℕ → List Refusal → Option Refusal → Type 0
IsFirstIn text [] found = found ≡ None
IsFirstIn text (refusal ∷ refusals) found =
    (IsIn text refusal × (found ≡ Some refusal)) ⊎ ((IsIn text refusal → ⊥) × IsFirstIn text refusals found)

-- its form, and then the advice on it
abbrev pub explanation_of : Refusal → List ℕ
explanation_of refusal = form_of refusal ++ (codes "\n" ++ advice_of refusal)

-- a line of the list
abbrev pub line_of : Refusal → List ℕ
line_of refusal = form_of refusal ++ codes "\n"

-- the words are a part of its line
abbrev pub HasPart : List ℕ → Refusal → Type 0
HasPart words refusal = HasWords (form_of refusal) words

-- those of some refusals that have the part, in their order
unfoldable pub AreWith : List ℕ → List Refusal → List Refusal → Type 0
AreWith words [] found = found ≡ []
AreWith words (refusal ∷ refusals) found =
    (HasPart words refusal × ((rest : List Refusal) × AreWith words refusals rest × (found ≡ refusal ∷ rest)))
    ⊎ ((HasPart words refusal → ⊥) × AreWith words refusals found)

-- a single one is explained, several are listed
abbrev pub text_of_found : List Refusal → List ℕ
text_of_found (refusal ∷ []) = explanation_of refusal
text_of_found refusals = flat_map line_of refusals

-- all refusals, each on a line
unfoldable pub refusal_lines : List ℕ
refusal_lines = flat_map line_of all_refusals
