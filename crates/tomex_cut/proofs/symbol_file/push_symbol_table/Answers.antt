use Rattle.tomex_cut.proofs.SymbolFiles.{entries_on, table_done}
use Rattle.tomex_cut.proofs.symbol_file.push_symbol_table.Goals as goal

pub loop-symbol-preserved : goal.loop-symbol-preserved
loop-symbol-preserved g c =
    entries_on _ c.loop-symbol.file.items _ c.args.start c.args.symbols.now _ _ c.in_ok-push_entry.ensures
    c.loop-symbol-test.true c.loop-symbol.invariant

pub returns : goal.returns
returns g c =
    table_done c.loop-symbol.file.items c.args.file.now.items c.args.start c.args.symbols.now _ c.loop-symbol-test.false
    c.loop-symbol.invariant
