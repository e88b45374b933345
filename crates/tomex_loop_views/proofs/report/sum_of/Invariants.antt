-- The numbers so far, and what there was before.
use Rattle.std.proofs.Common.{◌≡◌, ◌+◌, sum, take}
use Rattle.tomex_loop_views.proofs.report.sum_of.Given as goal

abbrev pub invariant-loop-number : goal.invariant-loop-number
invariant-loop-number l = l.all ≡ sum (take l.number-index l.numbers) + l.without
