use Rattle.tomex_cut.proofs.Listed.{alike_functions, alike_symbols, as_many}
use Rattle.tomex_cut.proofs.laws.functions_are_those_of_the_image.Goals as goal

pub returns-clause-symbols : goal.returns-clause-symbols
returns-clause-symbols c = alike_symbols

pub returns-clause-functions : goal.returns-clause-functions
returns-clause-functions c = alike_functions

pub returns-clause-some : goal.returns-clause-some
returns-clause-some c = as_many
