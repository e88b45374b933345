-- The columns so far.
use Rattle.std.proofs.Common.{◌≡◌, ◌++◌, take}
use Rattle.std.specs.List.{flat_map}
use Rattle.tomex_config.specs.Settings.{all_settings}
use Rattle.tomex_find.specs.Find.{setting_columns}
use Rattle.tomex_find.proofs.found_table.push_settings.Given as goal

abbrev pub invariant-loop-setting : goal.invariant-loop-setting
invariant-loop-setting g l =
    l.columns.items ≡ l.fn.columns.items
    ++ flat_map (setting_columns l.study l.rows) (take l.setting-index all_settings)
