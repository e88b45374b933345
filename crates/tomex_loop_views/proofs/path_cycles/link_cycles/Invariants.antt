-- The cycles of the links so far.
use Rattle.std.proofs.Common.{◌≡◌, take}
use Rattle.tomex_loop_views.specs.PathCycles.{cycles_for}
use Rattle.tomex_loop_views.proofs.path_cycles.link_cycles.Given as goal

abbrev pub invariant-loop-link : goal.invariant-loop-link
invariant-loop-link g l = l.cycles.items ≡ cycles_for l.reason (take l.link-index l.links)
