-- What stayed so far, and those to come that will.
use Rattle.std.proofs.Common.{◌≡◌, ◌++◌, drop, None}
use Rattle.tomex_choices.proofs.Passes.{passing}
use Rattle.tomex_choices.proofs.useful.unbeaten.Given as goal

abbrev pub invariant-loop-x : goal.invariant-loop-x
invariant-loop-x g l = l.unbeaten.items ++ passing l.last (drop l.x-index l.x-items) ≡ passing None l.x-items
