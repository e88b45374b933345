-- The programs that are compared.
use Rattle.std.specs.Prelude.{◌≡◌, ℕ, Some, slice_get}
use Rattle.tomex_study.specs.Program.{Workload}
use Rattle.tomex_study.specs.Study.{DesignSpace}

-- the program at a place
abbrev pub IsBuild : DesignSpace → ℕ → Workload → Type 0
IsBuild s place p = slice_get s.programs place ≡ Some p
