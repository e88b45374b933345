-- One row more is added up.
use Rattle.tomex_functions.proofs.ChangesRows.{none_more, row_fits, row_more}
use Rattle.tomex_functions.proofs.builds.add_rows.Goals as goal

pub loop-row-init : goal.loop-row-init
loop-row-init c = λ both is. none_more c.args.side both c.args.named.now is

pub add-requires : goal.add-requires
add-requires c =
    row_fits c.args.side c.args.file.now c.args.rows.now c.loop-row.row-index _ c.loop-row-test.true _ _
    c.in_ok-name.ensures c.share_in.ensures c.loop-row.named c.requires.both
    (c.loop-row.invariant c.requires.both c.requires.is) c.requires.old c.requires.new

pub loop-row-preserved : goal.loop-row-preserved
loop-row-preserved c = λ both is.
    row_more c.args.side c.args.file.now c.args.rows.now c.loop-row.row-index _ c.loop-row-test.true _ _
    c.in_ok-name.ensures c.share_in.ensures c.loop-row.named both c.add.new.self (c.loop-row.invariant both is)
    c.in_ok-add.ensures
