-- A refused line, and the reason.
use Rattle.tomex_arguments.specs.declared.fault.LineFault.{LineFault}
use Rattle.tomex_arguments.specs.declared.fault.LineFault.TheVariants.{Help, Usage, Memory}
use Rattle.tomex_arguments.specs.Faults.{IsRefusal, IsRefusedIf}

pub refused_if : (why : Type 0) (fault : LineFault) → IsRefusal fault → why → IsRefusedIf why fault
refused_if why (Help text) refusal is = refusal
refused_if why (Usage text) refusal is = is
refused_if why Memory refusal is = tt
