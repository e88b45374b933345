-- Each cycle up to the last issue is a wait or an issue.
use Rattle.tomex_page.proofs.Cycles.{cycles_add_up}
use Rattle.tomex_page.proofs.laws.cycles_add_up.Goals as goal

pub returns : goal.returns
returns c = cycles_add_up
