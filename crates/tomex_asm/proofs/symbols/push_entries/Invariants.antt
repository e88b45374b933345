-- What is pushed, and the symbols that are left, are all.
use Rattle.std.proofs.Common.{◌≡◌, ◌++◌, drop, map}
use Rattle.tomex_asm.specs.File.{entries}
use Rattle.tomex_asm.specs.Named.{symbol_of}
use Rattle.tomex_asm.proofs.symbols.push_entries.Given as goal

abbrev pub invariant-loop-symbol : goal.invariant-loop-symbol
invariant-loop-symbol g l =
    l.file.items ++ entries l.name (map symbol_of (drop l.symbol-index l.symbols))
    ≡ l.fn.file.items ++ entries 1 (map symbol_of l.symbols)
