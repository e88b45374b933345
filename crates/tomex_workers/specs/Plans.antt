-- The plan that a study's board is made for.
use Rattle.std.specs.Prelude.{◌≡◌, ℕ, List}
use Rattle.tomex_study.specs.Study.{DesignSpace}
use Rattle.tomex_study.specs.Cycles.{cycles_of}

-- the costs of the study's rows, and their cycles
pub record IsPlanOf (s : DesignSpace) (costs cycles : List ℕ) : Type 0 where
  pub its_costs : s.costs ≡ costs
  pub its_cycles : cycles_of s ≡ cycles
