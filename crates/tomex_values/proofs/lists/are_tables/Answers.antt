-- A test of the values is one of the items.
use Rattle.tomex_values.specs.Lists.{is_table}
use Rattle.tomex_values.proofs.Items.{list_all_items}
use Rattle.tomex_values.proofs.lists.are_tables.Goals as goal

pub returns : goal.returns
returns c = rw c.each_is_table.ensures (list_all_items is_table c.args.values.now)
