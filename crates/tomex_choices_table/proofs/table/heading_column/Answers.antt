-- The text of one list more.
use Rattle.std.proofs.Common.{◌∙◌, ap}
use Rattle.tomex_layout.specs.Table.{TableColumn}
use Rattle.tomex_layout.proofs.Loops.{item_more}
use Rattle.tomex_choices_table.specs.ChoicesTable.{text_under}
use Rattle.tomex_choices_table.proofs.table.heading_column.Goals as goal

pub loop-list-preserved : goal.loop-list-preserved
loop-list-preserved c = record {
  name = ap (λ (column : TableColumn). column.name) c.in_ok-push.ensures.one ∙ c.loop-list.invariant.name;
  entries = item_more (text_under c.args.heading) c.args.lists.now c.loop-list.list-index
      c.list-item.result _ _ _ _
      c.loop-list-test.true (ap (λ (column : TableColumn). column.entries) c.in_ok-push.ensures.one)
      (c.in_ok-text_under.ensures ∙ ap (text_under c.args.heading) c.list-item.is) c.loop-list.invariant.entries;
}
