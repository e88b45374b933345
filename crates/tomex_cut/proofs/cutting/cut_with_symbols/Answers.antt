use Rattle.std.proofs.Common.{arith}
use Rattle.std.proofs.lemmas.Grind.{common_steps}
use Rattle.tomex_cut.proofs.SymbolFiles.{with_symbols}
use Rattle.tomex_cut.proofs.cutting.cut_with_symbols.Goals as goal

pub returns-clause-ok : goal.returns-clause-ok
returns-clause-ok g c =
    with_symbols c.args.image.now c.args.bytes.now c.args.from c.args.least c.in_ok-part.part.entry
    c.in_ok-part.part.memory _ c.in_ok-part.ensures.ok
    (rw (c.window.ensures.value, c.bytes-memory.ensures.value) at c.in_ok-symbol_file_of.ensures)

pub symbol_file_of-requires-clause-memory : goal.symbol_file_of-requires-clause-memory
symbol_file_of-requires-clause-memory = grind (arith, common_steps)
