-- The programs that have a column stand where they stand in the study.
use Rattle.std.proofs.Common.{◌≡◌, ℕ, Bool, true, false, cond, List, [], length, Some, slice_get}
use Rattle.std.specs.Prelude.{nat_lt}
use Rattle.tomex_study.specs.Program.{Workload}
use Rattle.tomex_study.specs.Study.{DesignSpace}
use Rattle.tomex_worth.specs.WorthCsv.{shown_programs}

there : (several : Bool) (programs : List Workload) (place : ℕ) (p : Workload)
    → slice_get (cond several programs []) place ≡ Some p → slice_get programs place ≡ Some p
there true programs place p is = is
there false programs place p is = absurd (cc)

pub shown_there : (s : DesignSpace) (place : ℕ) (p : Workload) → slice_get (shown_programs s) place ≡ Some p
    → slice_get s.programs place ≡ Some p
shown_there s place p is = there (nat_lt 1 (length s.programs)) s.programs place p is
