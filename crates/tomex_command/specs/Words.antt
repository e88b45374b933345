-- Why the system gives no words of a command line.
use Rattle.std.specs.Prelude.{◌≡◌, ◌≢◌, string_bytes}
use Rattle.std.specs.IoError.{error_kind}
use Rattle.std.specs.declared.io.Error.{Error}
use Rattle.std.specs.declared.io.ErrorKind.TheVariants.{OutOfMemory}
use Rattle.tomex_arguments.specs.Faults.{not_text}
use Rattle.tomex_arguments.specs.declared.fault.LineFault.{LineFault}
use Rattle.tomex_arguments.specs.declared.fault.LineFault.TheVariants.{Help, Usage, Memory}

-- a line that isn't UTF-8 is a mistake, whose text says so, unless there was no memory for the text; the system's
-- being out of memory is no mistake
abbrev pub IsReadingFault : Error → LineFault → Type 0
IsReadingFault error (Help text) = ⊥
IsReadingFault error (Usage text) = (error_kind error ≢ OutOfMemory) × (string_bytes text ≡ not_text)
IsReadingFault error Memory = Unit {0}
