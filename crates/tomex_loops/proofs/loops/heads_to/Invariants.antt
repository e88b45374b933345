-- The heads so far.
use Rattle.std.proofs.Common.{◌≡◌, false, get_or}
use Rattle.tomex_loops.specs.Runs.{heads_to}
use Rattle.tomex_loops.proofs.loops.heads_to.Given as goal

abbrev pub invariant-loop-place : goal.invariant-loop-place
invariant-loop-place g l = l.result.items ≡ heads_to (λ x. get_or l.heads x false) l.place
