-- There are as many items as values.
use Rattle.tomex_values.proofs.Items.{count_items}
use Rattle.tomex_values.proofs.lists.items_count.Goals as goal

pub returns-clause-count : goal.returns-clause-count
returns-clause-count c = count_items c.args.values.now
