-- The column of one heading more.
use Rattle.tomex_choices_table.specs.ChoicesTable.{all_headings, heading_column}
use Rattle.tomex_layout.proofs.Loops.{item_pushed}
use Rattle.tomex_choices_table.proofs.table.all_columns.Goals as goal

pub loop-heading-preserved : goal.loop-heading-preserved
loop-heading-preserved c =
    item_pushed (heading_column c.args.lists.now) all_headings c.loop-heading.heading-index _ _ _ _
    c.loop-heading-test.true c.loop-heading.invariant c.in_ok-heading_column.ensures c.in_ok-push.ensures.items
