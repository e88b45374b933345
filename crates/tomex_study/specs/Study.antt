-- A study: its programs, its configurations, and the cost of each configuration.
use Rattle.std.specs.Prelude.{◌≡◌, ℕ, ◌≤◌, Bool, List, length, map, slice_index_or, Option, All}
use Rattle.std.specs.List.{find}
use Rattle.std.specs.Str.{bytes_eq}
use Rattle.tomex_config.specs.Configuration.{Configuration, IsWithinLimits, plain}
use Rattle.tomex_config.specs.Cost.{IsPriceList, PriceList, cost_of}
use Rattle.tomex_config.specs.Grid.{most_rows}
use Rattle.tomex_study.specs.Program.{Workload, IsProgram}

pub record DesignSpace : Type 0 where
  pub programs : List Workload
  -- a configuration's row is its place here
  pub rows : List Configuration
  pub costs : List ℕ
  pub prices : PriceList
  -- reports show widths and weights
  pub wide : Bool

abbrev pub design_space : List Workload → List Configuration → List ℕ → PriceList → Bool → DesignSpace
design_space programs rows costs prices wide =
    record { programs = programs; rows = rows; costs = costs; prices = prices; wide = wide }

-- the cost of each configuration at these prices
abbrev pub costs_of : PriceList → List Configuration → List ℕ
costs_of prices rows = map (λ config. cost_of config prices) rows

-- 1 to 8 programs, which end, 1 to 16,384 configurations and the prices within the limits, and the cost of each
-- configuration
pub record IsStudy (s : DesignSpace) : Type 0 where
  pub some_programs : 1 ≤ length s.programs
  pub few_programs : length s.programs ≤ 8
  pub ends : All IsProgram s.programs
  pub some_rows : 1 ≤ length s.rows
  pub few_rows : length s.rows ≤ most_rows
  pub limits : All IsWithinLimits s.rows
  pub prices : IsPriceList s.prices
  pub costs : s.costs ≡ costs_of s.prices s.rows

-- the configuration of a row
abbrev pub config_at : DesignSpace → ℕ → Configuration
config_at s row = slice_index_or s.rows row plain

-- the first program of that name
abbrev pub program_named : List ℕ → List Workload → Option Workload
program_named name programs = find (λ p. bytes_eq p.name name) programs
