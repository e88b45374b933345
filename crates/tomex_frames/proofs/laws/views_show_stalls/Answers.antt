-- Rows are counted by views or by steps, and a step that waits is listed.
use Rattle.tomex_frames.proofs.Views.{views_show_stalls}
use Rattle.tomex_frames.proofs.laws.views_show_stalls.Goals as goal

pub returns : goal.returns
returns c = views_show_stalls
