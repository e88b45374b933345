-- A file without tables has no symbols, and so none with one number.
use Rattle.std.specs.List.{IsDistinct}
use Rattle.tomex_symbols.proofs.reading.symbols.Goals as goal

pub returns-in-None-clause-numbered : goal.returns-in-None-clause-numbered
unfolding IsDistinct
returns-in-None-clause-numbered g c = rw c.new.ensures.items tt
