-- What is pushed, and the symbols that are left, are all.
use Rattle.std.proofs.Common.{◌≡◌, ◌++◌, drop, map}
use Rattle.tomex_asm.specs.File.{names}
use Rattle.tomex_asm.specs.Named.{symbol_of}
use Rattle.tomex_asm.proofs.symbols.push_names.Given as goal

abbrev pub invariant-loop-symbol : goal.invariant-loop-symbol
invariant-loop-symbol g l =
    l.file.items ++ names (map symbol_of (drop l.symbol-index l.symbols))
    ≡ l.fn.file.items ++ names (map symbol_of l.symbols)
