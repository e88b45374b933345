use Rattle.std.proofs.Common.{◌≡◌, ◌++◌, replicate, take}
use Rattle.std.specs.List.{flat_map}
use Rattle.tomex_cut.specs.SymbolFile.{entry_of}
use Rattle.tomex_cut.proofs.symbol_file.push_symbol_table.Given as goal

abbrev pub invariant-loop-symbol : goal.invariant-loop-symbol
invariant-loop-symbol g l =
    l.file.items ≡ (l.fn.file.items ++ replicate 16 0) ++ flat_map (entry_of l.start) (take l.symbol-index l.symbols)
