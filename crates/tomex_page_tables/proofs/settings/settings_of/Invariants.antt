-- The settings so far, and those to come.
use Rattle.std.proofs.Common.{◌≡◌, ◌++◌, drop}
use Rattle.std.specs.List.{filter}
use Rattle.tomex_config.specs.Settings.{all_settings, differs}
use Rattle.tomex_page_tables.proofs.settings.settings_of.Given as goal

abbrev pub invariant-loop-setting : goal.invariant-loop-setting
invariant-loop-setting g l =
    l.settings.items ++ filter (differs l.study.rows) (drop l.setting-index all_settings)
    ≡ filter (differs l.study.rows) all_settings
