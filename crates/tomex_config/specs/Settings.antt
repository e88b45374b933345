-- The settings of a configuration: the counts of its parts, and the latencies of its units.
use Rattle.std.specs.Prelude.{ℕ, ◌==◌, Bool, false, not, List, [], ◌∷◌}
use Rattle.std.specs.List.{list_any}
use Rattle.tomex_rvdec.specs.declared.pool.PoolId.TheVariants as pools
use Rattle.tomex_rvdec.specs.declared.pool.UnitId.TheVariants as units
use Rattle.tomex_config.specs.Configuration.{Configuration, option_of}
use Rattle.tomex_config.specs.Parts.{count_of}
use Rattle.tomex_config.specs.declared.part.Part.TheVariants.{Stations, Units, Buses, Width}
use Rattle.tomex_config.specs.declared.setting.Setting.{Setting}
use Rattle.tomex_config.specs.declared.setting.Setting.TheVariants.{Count, Latency}

-- all settings, in the order of the front report's columns
abbrev pub all_settings : List Setting
all_settings =
    Count (Stations pools.Alu) ∷ Count (Stations pools.Mul) ∷ Count (Stations pools.Div)
    ∷ Count (Stations pools.Load) ∷ Count (Stations pools.Store) ∷ Count (Stations pools.Bru)
    ∷ Count (Units units.Alu) ∷ Latency units.Alu ∷ Count (Units units.Mul) ∷ Latency units.Mul
    ∷ Count (Units units.Div) ∷ Latency units.Div ∷ Count (Units units.Mem) ∷ Latency units.Mem
    ∷ Count (Units units.Bru) ∷ Latency units.Bru ∷ Count Buses ∷ Count Width ∷ []

abbrev pub setting_of : Configuration → Setting → ℕ
setting_of config (Count part) = count_of config part
setting_of config (Latency unit) = (option_of config unit).latency

-- two of the rows differ in it: some row and the first one
unfoldable pub differs : List Configuration → Setting → Bool
differs [] setting = false
differs (first ∷ rows) setting = list_any (λ config. not (setting_of config setting == setting_of first setting)) rows
