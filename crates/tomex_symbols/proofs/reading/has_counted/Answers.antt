-- The entry counts, or no entry so far does.
use Rattle.std.proofs.Common.{◌∙◌, ap, sym}
use Rattle.std.specs.Prelude.{is_some}
use Rattle.tomex_symbols.proofs.Entries.{entry_counts, entry_skipped}
use Rattle.tomex_symbols.proofs.reading.has_counted.Goals as goal

pub returns-then-is_some : goal.returns-then-is_some
returns-then-is_some c =
    entry_counts c.args.bytes.now c.args.tables.now _ _ _ c.loop-number-test.true c.loop-number.invariant
    (ap is_some (sym c.kind_at.ensures) ∙ (sym c.is_some.ensures ∙ c.if-is_some.true))

pub loop-number-preserved : goal.loop-number-preserved
loop-number-preserved c =
    entry_skipped c.args.bytes.now c.args.tables.now _ _ _ c.loop-number-test.true c.loop-number.invariant
    (ap is_some (sym c.kind_at.ensures) ∙ (sym c.is_some.ensures ∙ c.if-is_some.false))
