-- The text so far, and the names to come.
use Rattle.std.proofs.Common.{◌≡◌, ◌++◌, drop}
use Rattle.std.specs.Prelude.{string_bytes}
use Rattle.std.specs.List.{flat_map}
use Rattle.tomex_html.specs.Tables.{column_head}
use Rattle.tomex_layout.specs.Lists.{name_of_setting}
use Rattle.tomex_page_tables.proofs.settings.push_setting_heads.Given as goal

abbrev pub invariant-loop-setting : goal.invariant-loop-setting
invariant-loop-setting g l =
    string_bytes l.text ++ flat_map (λ setting. column_head (name_of_setting setting)) (drop l.setting-index
    l.settings)
    ≡ string_bytes l.fn.text ++ flat_map (λ setting. column_head (name_of_setting setting)) l.settings
