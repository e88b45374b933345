use Rattle.tomex_cut.proofs.Loading.{loads_with_symbols}
use Rattle.tomex_cut.proofs.laws.file_with_symbols_loads_as_the_one_without.Goals as goal

pub returns : goal.returns
returns c = loads_with_symbols
