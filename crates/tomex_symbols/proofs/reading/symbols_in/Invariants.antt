-- The symbols so far, and those of the entries to come, are all.
use Rattle.std.proofs.Common.{◌≡◌, ◌/◌, ◌-◌, ◌++◌}
use Rattle.tomex_symbols.specs.Symbols.{symbols_from}
use Rattle.tomex_symbols.proofs.reading.symbols_in.Given as goal

abbrev pub invariant-loop-number : goal.invariant-loop-number
invariant-loop-number g l =
    l.symbols.items ++ symbols_from l.bytes l.tables l.number (l.tables.symbols.size / 16 - l.number)
    ≡ symbols_from l.bytes l.tables 0 (l.tables.symbols.size / 16)
