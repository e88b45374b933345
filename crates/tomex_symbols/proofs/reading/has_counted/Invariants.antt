-- No entry so far counts.
use Rattle.std.proofs.Common.{◌≡◌, ◌/◌, ◌-◌}
use Rattle.tomex_symbols.specs.Symbols.{symbols_from}
use Rattle.tomex_symbols.proofs.reading.has_counted.Given as goal

abbrev pub invariant-loop-number : goal.invariant-loop-number
invariant-loop-number l =
    symbols_from l.bytes l.tables 0 (l.tables.symbols.size / 16)
    ≡ symbols_from l.bytes l.tables l.number (l.tables.symbols.size / 16 - l.number)
