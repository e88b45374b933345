-- One more entry; at the end all symbols have their numbers in the table.
use Rattle.std.proofs.Common.{◌≡◌, ◌/◌, sym, subst, append_assoc, rules}
use Rattle.tomex_symbols.specs.Functions.{AreNumbered}
use Rattle.tomex_symbols.specs.Symbols.{symbols_from}
use Rattle.tomex_symbols.proofs.Entries.{apart_from, symbols_next}
use Rattle.tomex_symbols.proofs.reading.symbols_in.Goals as goal

pub loop-number-preserved : goal.loop-number-preserved
loop-number-preserved g c =
    rw c.in_ok-push_counted.ensures
    (rw append_assoc
    (rw (← (symbols_next c.args.bytes.now c.args.tables.now _ _ c.loop-number-test.true)) c.loop-number.invariant))

pub returns-clause-numbered : goal.returns-clause-numbered
returns-clause-numbered g c =
    let e : c.loop-number.symbols.items
    ≡ symbols_from c.args.bytes.now c.args.tables.now 0 (c.args.tables.now.symbols.size / 16) = search rules in
    subst AreNumbered (sym e) (apart_from c.args.bytes.now c.args.tables.now 0 _)
