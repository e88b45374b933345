-- After the names so far, the symbols that are left end where all end.
use Rattle.std.proofs.Common.{◌≡◌, drop, map}
use Rattle.tomex_asm.specs.File.{names_end}
use Rattle.tomex_asm.specs.Named.{symbol_of}
use Rattle.tomex_asm.proofs.symbols.names_end.Given as goal

abbrev pub invariant-loop-symbol : goal.invariant-loop-symbol
invariant-loop-symbol l =
    names_end l.name (map symbol_of (drop l.symbol-index l.symbols)) ≡ names_end 1 (map symbol_of l.symbols)
