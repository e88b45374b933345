-- What is left of both lists.
use Rattle.std.proofs.Common.{◌≡◌, drop}
use Rattle.tomex_choices.specs.Asking.{differ}
use Rattle.tomex_choices.proofs.asking.differ.Given as goal

abbrev pub invariant-loop-place : goal.invariant-loop-place
invariant-loop-place l = differ (drop l.place l.a) (drop l.place l.b) ≡ differ l.a l.b
