-- A test of the values is one of the items.
use Rattle.tomex_document.specs.Watch.{is_integers}
use Rattle.tomex_values.proofs.Items.{list_all_items}
use Rattle.tomex_document.proofs.document.watch.are_lists.Goals as goal

pub returns : goal.returns
returns c = rw c.each_is_integers.ensures (list_all_items is_integers c.args.values.now)
