-- Command lines that ask for no command.
use Rattle.std.specs.Prelude.{String, ℕ, ◌≢◌, ◌≡◌, ◌⊎◌, ◌++◌, ◌∷◌, List, [], codes}
use Rattle.std.specs.Global.{Global}
use Rattle.clap.specs.Values.{kind_of}
use Rattle.clap.specs.declared.error.Error.{Error}
use Rattle.clap.specs.declared.error.kind.ErrorKind.{ErrorKind}
use Rattle.clap.specs.declared.error.kind.ErrorKind.TheVariants.{DisplayHelp, DisplayVersion, OutOfMemory}
use Rattle.tomex_arguments.specs.declared.fault.LineFault.{LineFault}
use Rattle.tomex_arguments.specs.declared.fault.LineFault.TheVariants.{Help, Usage, Memory}

-- the exit status
abbrev pub status_of : LineFault → ℕ
status_of (Help text) = 0
status_of (Usage text) = 2
status_of Memory = 3

-- the fault that reports an error of a kind, with its text
abbrev pub fault_by_kind : ErrorKind → String Global → LineFault
fault_by_kind OutOfMemory said = Memory
fault_by_kind DisplayHelp said = Help said
fault_by_kind DisplayVersion said = Help said
fault_by_kind _ said = Usage said

-- the fault reports the parser's error: help and the version as help; out of memory isn't a refused line; there may
-- be no memory for the text itself
abbrev pub StandsFor : Error → LineFault → Type 0
StandsFor error (Help text) = (kind_of error ≡ DisplayHelp) ⊎ (kind_of error ≡ DisplayVersion)
StandsFor error (Usage text) =
    (kind_of error ≢ DisplayHelp) × (kind_of error ≢ DisplayVersion) × (kind_of error ≢ OutOfMemory)
StandsFor error Memory = Unit {0}

-- a line is refused only if this is so, or out of memory: it did not ask for help
abbrev pub IsRefusedIf : Type 0 → LineFault → Type 0
IsRefusedIf why (Help text) = ⊥
IsRefusedIf why (Usage text) = why
IsRefusedIf why Memory = Unit {0}

-- a line is refused, or out of memory
abbrev pub IsRefusal : LineFault → Type 0
IsRefusal fault = IsRefusedIf (Unit {0}) fault

-- the message for a line whose words are not all text
abbrev pub not_text : List ℕ
not_text = codes "error: the command line is not UTF-8" ++ (10 ∷ [])
