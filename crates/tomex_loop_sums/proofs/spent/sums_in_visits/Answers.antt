-- The visits' spans come in order, and end with the run.
use Rattle.std.proofs.Common.{length}
use Rattle.tomex_loop_sums.proofs.SpansBy.{spans_forward, spans_keys, spans_order, spans_within}
use Rattle.tomex_loop_sums.proofs.spent.sums_in_visits.Goals as goal

pub sums_in_spans-requires-clause-keys : goal.sums_in_spans-requires-clause-keys
sums_in_spans-requires-clause-keys g c = rw (c.deref.ensures.value, c.in_ok-spans.ensures)
    (spans_keys (length c.args.numbers.now) c.args.visits.now c.args.ends.now c.requires.many_ends c.args.count
    c.requires.loops)

pub sums_in_spans-requires-clause-spans : goal.sums_in_spans-requires-clause-spans
sums_in_spans-requires-clause-spans g c = rw (c.deref.ensures.value, c.in_ok-spans.ensures)
    (spans_forward (length c.args.numbers.now) c.args.visits.now c.args.ends.now c.requires.many_ends
    c.requires.first c.requires.ends)

pub sums_in_spans-requires-clause-within : goal.sums_in_spans-requires-clause-within
sums_in_spans-requires-clause-within g c = rw (c.deref.ensures.value, c.in_ok-spans.ensures)
    (spans_within (length c.args.numbers.now) c.args.visits.now c.args.ends.now c.requires.many_ends
    c.requires.first c.requires.ends)

pub sums_in_spans-requires-clause-order : goal.sums_in_spans-requires-clause-order
sums_in_spans-requires-clause-order g c = rw (c.deref.ensures.value, c.in_ok-spans.ensures)
    (spans_order (length c.args.numbers.now) c.args.visits.now c.args.ends.now c.requires.many_ends c.requires.order)
