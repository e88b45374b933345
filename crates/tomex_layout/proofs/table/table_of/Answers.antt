-- The line of one more turn.
use Rattle.tomex_layout.specs.Table.{entries_line}
use Rattle.tomex_layout.proofs.Loops.{number_more}
use Rattle.tomex_layout.proofs.table.table_of.Goals as goal

pub loop-place-preserved : goal.loop-place-preserved
loop-place-preserved g c =
    number_more (entries_line c.args.columns.now) c.loop-place.place c.args.count _ _ _ c.loop-place-test.true
    c.in_ok-push_line-2.ensures c.loop-place.invariant
