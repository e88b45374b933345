-- The text so far, and the cells to come.
use Rattle.std.proofs.Common.{◌≡◌, ◌++◌, drop}
use Rattle.std.specs.Prelude.{string_bytes}
use Rattle.std.specs.List.{flat_map}
use Rattle.tomex_page_tables.specs.Front.{setting_cell}
use Rattle.tomex_page_tables.proofs.settings.push_setting_cells.Given as goal

abbrev pub invariant-loop-setting : goal.invariant-loop-setting
invariant-loop-setting g l =
    string_bytes l.text ++ flat_map (setting_cell l.before l.row) (drop l.setting-index l.settings)
    ≡ string_bytes l.fn.text ++ flat_map (setting_cell l.before l.row) l.settings
