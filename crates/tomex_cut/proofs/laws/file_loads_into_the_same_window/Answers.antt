use Rattle.tomex_cut.proofs.Loading.{loads}
use Rattle.tomex_cut.proofs.laws.file_loads_into_the_same_window.Goals as goal

pub returns : goal.returns
returns c = loads
