-- What holds of every page.
use Rattle.tomex_page.proofs.OnPath.{on_path_is_within}
use Rattle.tomex_page.proofs.laws.on_path_is_within_all.Goals as goal

pub returns : goal.returns
returns c = on_path_is_within
