-- The places so far.
use Rattle.std.proofs.Common.{◌≡◌, false}
use Rattle.std.specs.Prelude.{replicate}
use Rattle.tomex_loops.proofs.finding.no_heads.Given as goal

abbrev pub invariant-loop-place : goal.invariant-loop-place
invariant-loop-place g l = l.heads.items ≡ replicate l._place false
