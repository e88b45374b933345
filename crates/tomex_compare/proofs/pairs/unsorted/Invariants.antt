-- The pairs of the rows so far.
use Rattle.std.proofs.Common.{◌≡◌, map}
use Rattle.std.specs.List.{range_with_len}
use Rattle.tomex_compare.specs.Pairs.{pair_at}
use Rattle.tomex_compare.proofs.pairs.unsorted.Given as goal

abbrev pub invariant-loop-row : goal.invariant-loop-row
invariant-loop-row g l =
    l.pairs.items ≡ map (pair_at l.surveyed l.old.program.now l.new.program.now) (range_with_len 0 l.row)
