-- The lists so far, and the remaining ones.
use Rattle.std.proofs.Common.{◌≡◌, drop}
use Rattle.std.specs.Vec.Iter.{into_iter_items}
use Rattle.tomex_choices.proofs.Joining.{AreJoinedTo}
use Rattle.tomex_choices.proofs.found.append_lists.Given as goal

abbrev pub invariant-loop-list : goal.invariant-loop-list
invariant-loop-list g l = record {
  left : drop l.place l.fn.others.items ≡ into_iter_items l.list-iterator;
  joined : AreJoinedTo l.place l.fn.lists.items l.fn.others.items l.lists.items;
}
