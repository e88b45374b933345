-- A test of the values is one of the items.
use Rattle.tomex_values.specs.Lists.{is_integer}
use Rattle.tomex_values.proofs.Items.{list_all_items}
use Rattle.tomex_values.proofs.lists.are_integers.Goals as goal

pub returns : goal.returns
returns c = rw c.each_is_integer.ensures (list_all_items is_integer c.args.values.now)
