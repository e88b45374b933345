-- The remaining settings.
use Rattle.std.proofs.Common.{◌≡◌, drop}
use Rattle.std.specs.List.{list_any}
use Rattle.tomex_config.specs.Settings.{all_settings}
use Rattle.tomex_find.specs.Find.{is_choice, is_of_setting}
use Rattle.tomex_find.specs.declared.property.Property.TheVariants.{Setting}
use Rattle.tomex_find.proofs.named_values.is_of_setting.Given as goal

abbrev pub invariant-loop-setting : goal.invariant-loop-setting
invariant-loop-setting g l =
    list_any (λ setting. is_choice l.study l.row l.word (Setting setting)) (drop l.setting-index all_settings)
    ≡ is_of_setting l.study l.row l.word
