-- If all are closed, none is left.
use Rattle.std.proofs.Common.{sym, refl}
use Rattle.tomex_sweep.proofs.Gathered.{none_left}
use Rattle.tomex_sweep.proofs.leftovers.close_rest.Goals as goal

pub returns-then-are_closed-clause-counted : goal.returns-then-are_closed-clause-counted
returns-then-are_closed-clause-counted g c =
    sym (none_left c.args.marks.now.items
    (rw c.as_slice.ensures.value at (c.are_closed.ensures.0 c.if-are_closed.true)))
