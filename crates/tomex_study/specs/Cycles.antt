-- The cycles of a study's configurations.
use Rattle.std.specs.Prelude.{ℕ, ◌*◌, List, map, sum_by}
use Rattle.tomex_config.specs.Configuration.{Configuration}
use Rattle.tomex_timing.specs.Run.{total}
use Rattle.tomex_study.specs.Program.{Workload}
use Rattle.tomex_study.specs.Study.{DesignSpace, config_at}

-- the cycles of a program's run on a configuration
abbrev pub cycles_of_run : Configuration → Workload → ℕ
cycles_of_run config p = total config p.image

-- the totals of the programs' runs on a configuration, in the programs' order
unfoldable pub totals_on : List Workload → Configuration → List ℕ
totals_on programs config = map (cycles_of_run config) programs

-- the cycles of a configuration: the sum of the totals of the programs' runs on it, each times its weight
unfoldable pub cycles_on : List Workload → Configuration → ℕ
cycles_on programs config = sum_by (λ p. p.weight * cycles_of_run config p) programs

-- a program's cycles on the row of this number
abbrev pub total_at : DesignSpace → Workload → ℕ → ℕ
total_at s p row = cycles_of_run (config_at s row) p

-- the totals of the programs' runs on each configuration: a list for each row, in the rows' order
unfoldable pub totals_of : DesignSpace → List (List ℕ)
totals_of s = map (totals_on s.programs) s.rows

-- the cycles of each configuration, in their order
unfoldable pub cycles_of : DesignSpace → List ℕ
cycles_of s = map (cycles_on s.programs) s.rows
