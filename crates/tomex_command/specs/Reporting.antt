-- What is said of failures, and of lines that ask for no command.
use Rattle.std.specs.Prelude.{◌≡◌, ◌⊎◌, ℕ, List, ◌++◌, codes, string_bytes}
use Rattle.std.specs.Fmt.{decimal}
use Rattle.tomex_command.specs.declared.failure.Failure.{Failure}
use Rattle.tomex_command.specs.declared.failure.Failure.TheVariants.{BadWindow, Run, Study, NoSuchRow}
use Rattle.tomex_command.specs.declared.failure.Failure.TheVariants.{NoSuchProgram, NoSymbols, CyclePastEnd, NoSuchStep}
use Rattle.tomex_command.specs.declared.failure.Failure.TheVariants.{NoEnd, CodeOverwritten, NoRoom, OnTerminal}
use Rattle.tomex_command.specs.declared.failure.Failure.TheVariants.{PictureTooLarge, TableTooLarge, CannotRead}
use Rattle.tomex_command.specs.declared.failure.Failure.TheVariants.{CannotWrite, NoSuchChoice, SeveralRows}
use Rattle.tomex_command.specs.declared.failure.Failure.TheVariants.{NoSuchRefusal, Memory, Worker}
use Rattle.tomex_arguments.specs.declared.fault.LineFault.{LineFault}
use Rattle.tomex_arguments.specs.declared.fault.LineFault.TheVariants.{Help, Usage}
use Rattle.tomex_arguments.specs.declared.fault.LineFault.TheVariants as faults
use Rattle.tomex_layout.specs.Names.{shown_name}
use Rattle.tomex_streams.specs.Sinks.{Seen, IsWhole, IsCut, IsWritten}
use Rattle.tomex_command.specs.Statuses.{status_of_failure}

-- the text of a failure; nothing is stated about the texts of refused runs and studies
abbrev pub IsTextOf : Failure → List ℕ → Type 0
IsTextOf BadWindow text = text ≡ codes "bad window"
IsTextOf (Run refusal) text = Unit {0}
IsTextOf (Study error) text = Unit {0}
IsTextOf NoSuchRow text = text ≡ codes "no such row"
IsTextOf (SeveralRows n) text = text ≡ codes "several rows: " ++ decimal n
IsTextOf NoSuchProgram text = text ≡ codes "no such program"
IsTextOf NoSymbols text = text ≡ codes "no symbols"
IsTextOf CyclePastEnd text = text ≡ codes "cycle past the end"
IsTextOf NoSuchStep text = text ≡ codes "no such step"
IsTextOf NoEnd text = text ≡ codes "no end"
IsTextOf CodeOverwritten text = text ≡ codes "code overwritten"
IsTextOf NoRoom text = text ≡ codes "no room"
IsTextOf PictureTooLarge text = text ≡ codes "picture too large"
IsTextOf TableTooLarge text = text ≡ codes "table too large"
IsTextOf (NoSuchChoice choice) text = text ≡ codes "no such choice: " ++ shown_name (string_bytes choice)
IsTextOf NoSuchRefusal text = text ≡ codes "no such refusal"
IsTextOf (CannotRead name) text = text ≡ codes "cannot read " ++ shown_name (string_bytes name)
IsTextOf CannotWrite text = text ≡ codes "cannot write"
IsTextOf OnTerminal text = text ≡ codes "output is a terminal"
IsTextOf Memory text = text ≡ codes "out of memory"
IsTextOf Worker text = text ≡ codes "thread refused"

-- a line of the program's own on the standard error
abbrev pub line_of : List ℕ → List ℕ
line_of text = codes "tomex: " ++ (text ++ codes "\n")

-- the line of a failure
abbrev pub IsLineOf : Failure → List ℕ → Type 0
IsLineOf failure line = (text : List ℕ) × IsTextOf failure text × (line ≡ line_of text)

-- the failure's line was reported, with its status; or, if even that line found no memory, out of memory
abbrev pub IsFailureReported : Failure → ℕ → Seen → Seen → Type 0
IsFailureReported failure status old new =
    ((status ≡ status_of_failure failure) × ((line : List ℕ) × IsLineOf failure line × IsWritten line old new))
    ⊎ ((status ≡ 3) × IsWritten (line_of (codes "out of memory")) old new)

-- a fault is reported with its status, and the output gets only help: all of it, unless it fails
abbrev pub IsFaultReported : LineFault → ℕ → Seen → Seen → Type 0
IsFaultReported (Help text) status old new =
    ((status ≡ 0) × IsWhole (string_bytes text) old new) ⊎ ((status ≡ 3) × IsCut (string_bytes text) old new)
IsFaultReported (Usage text) status old new = (status ≡ 2) × (new ≡ old)
IsFaultReported faults.Memory status old new = (status ≡ 3) × (new ≡ old)

-- what the standard error gets if a line asks for no command
abbrev pub IsSaid : LineFault → ℕ → Seen → Seen → Type 0
IsSaid (Help text) status old new =
    ((status ≡ 0) × (new ≡ old)) ⊎ ((status ≡ 3) × IsWritten (line_of (codes "cannot write")) old new)
IsSaid (Usage text) status old new = IsWritten (string_bytes text) old new
IsSaid _ status old new = IsWritten (line_of (codes "out of memory")) old new
