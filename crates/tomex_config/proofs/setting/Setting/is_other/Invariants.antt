-- The remaining configurations.
use Rattle.std.proofs.Common.{◌≡◌, ◌==◌, not, drop}
use Rattle.std.specs.List.{list_any}
use Rattle.tomex_config.specs.Settings.{setting_of}
use Rattle.tomex_config.proofs.setting.Setting.is_other.Given as goal

abbrev pub invariant-loop-config : goal.invariant-loop-config
invariant-loop-config l =
    list_any (λ config. not (setting_of config l.self == l.usual)) (drop l.config-index l.rows)
    ≡ list_any (λ config. not (setting_of config l.self == l.usual)) l.rows
