-- The column of one more setting.
use Rattle.std.proofs.Common.{refl, arith}
use Rattle.std.proofs.lemmas.Grind.{common_steps}
use Rattle.tomex_layout.proofs.Pieces.{next_piece}
use Rattle.tomex_config.specs.Settings.{all_settings}
use Rattle.tomex_find.specs.Find.{setting_columns}
use Rattle.tomex_find.proofs.found_table.push_settings.Goals as goal

pub loop-setting-preserved : goal.loop-setting-preserved
loop-setting-preserved g c =
    next_piece (setting_columns c.args.study.now c.args.rows.now) all_settings c.loop-setting.setting-index _ _
    c.args.columns.now.items _ _ c.loop-setting-test.true refl c.loop-setting.invariant
    c.in_ok-push_setting.ensures

pub returns : goal.returns
returns = grind (arith, common_steps)

pub push_setting-requires : goal.push_setting-requires
push_setting-requires = grind (arith, common_steps)
