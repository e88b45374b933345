use Rattle.tomex_asm.proofs.Entries.{entry_more}
use Rattle.tomex_asm.proofs.symbols.push_entries.Goals as goal

pub loop-symbol-preserved : goal.loop-symbol-preserved
loop-symbol-preserved g c =
    entry_more c.push_entry.new.file.items c.loop-symbol.file.items _ c.loop-symbol.name c.after_name-name.result
    c.loop-symbol.symbol-index c.args.symbols.now _ c.loop-symbol-test.true c.in_ok-push_entry.ensures
    c.after_name-name.ensures c.loop-symbol.invariant
