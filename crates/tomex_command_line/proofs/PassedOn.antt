-- A line that is refused for a value of it is refused as a whole.
use Rattle.std.proofs.Common.{◌≡◌, sym, subst, IfErr, IfOk, Result, Ok, Err}
use Rattle.std.specs.Prelude.{IsErrAnd, IsOkAnd, MatchResult}
use Rattle.tomex_arguments.specs.Faults.{IsRefusedIf}
use Rattle.tomex_arguments.specs.declared.fault.LineFault.{LineFault}
use Rattle.tomex_arguments.specs.declared.fault.LineFault.TheVariants.{Help, Usage, Memory}

pub wider : (why other : Type 0) (fault : LineFault) → IsRefusedIf why fault → (why → other) → IsRefusedIf other fault
wider why other (Help text) refused so = refused
wider why other (Usage text) refused so = so refused
wider why other Memory refused so = tt

-- the fault of a value is passed on
pub passed_on : {T : Type 0} (why other : Type 0) (fault : LineFault) (passed : Result T LineFault)
    → IsErrAnd passed (λ same. same ≡ fault) → IsRefusedIf why fault → (why → other)
    → IfErr passed (IsRefusedIf other)
passed_on why other fault (Ok _) is refused so = absurd is
passed_on why other fault (Err same) is refused so =
    subst (λ (f : LineFault). IsRefusedIf other f) (sym is) (wider why other fault refused so)

-- a line made of a command's values is refused if they are
pub mapped : {T U : Type 0} (why other : Type 0) (found : Result T LineFault) (line : Result U LineFault)
    (Made : T → U → Type 0) → MatchResult found (λ x. IsOkAnd line (Made x)) (λ fault. line ≡ Err fault)
    → IfErr found (IsRefusedIf why) → (why → other) → IfErr line (IsRefusedIf other)
mapped why other (Ok x) (Ok made) Made cases refused so = tt
mapped why other (Ok x) (Err fault) Made cases refused so = absurd cases
mapped {U = U} why other (Err fault) line Made cases refused so =
    subst (λ (r : Result U LineFault). IfErr r (IsRefusedIf other)) (sym cases) (wider why other fault refused so)

-- a line made of a command's values is the one that is asked for if they are
pub made : {T U : Type 0} (to : T → U) (Is : T → Type 0) (IsLine : U → Type 0) (found : Result T LineFault)
    (line : Result U LineFault)
    → MatchResult found (λ x. IsOkAnd line (λ y. y ≡ to x)) (λ fault. line ≡ Err fault)
    → IfOk found Is → ((x : T) → Is x → IsLine (to x)) → IfOk line IsLine
made to Is IsLine (Ok x) (Ok y) e is so = subst IsLine (sym e) (so x is)
made to Is IsLine (Ok x) (Err fault) cases is so = absurd cases
made {U = U} to Is IsLine (Err fault) line cases is so =
    subst (λ (r : Result U LineFault). IfOk r IsLine) (sym cases) tt
