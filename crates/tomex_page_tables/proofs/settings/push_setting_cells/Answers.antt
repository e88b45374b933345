-- Closed at once: searching by rules first takes long.
use Rattle.std.proofs.Common.{arith}
use Rattle.std.proofs.lemmas.Grind.{common_steps}
use Rattle.tomex_page_tables.proofs.settings.push_setting_cells.Goals as goal

pub loop-setting-preserved : goal.loop-setting-preserved
loop-setting-preserved = grind (arith, common_steps)
