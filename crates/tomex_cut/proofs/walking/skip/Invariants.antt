use Rattle.std.proofs.Common.{◌≡◌, Ok}
use Rattle.tomex_cut.specs.After.{after}
use Rattle.tomex_cut.proofs.walking.skip.Given as goal

abbrev pub invariant-loop-done : goal.invariant-loop-done
invariant-loop-done g l = after l.fn.cpu l.done ≡ Ok l.cpu
