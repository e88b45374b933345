-- The keys of the links so far.
use Rattle.std.proofs.Common.{◌≡◌, map, take}
use Rattle.tomex_loop_views.specs.PathCycles.{key_of_link}
use Rattle.tomex_loop_views.proofs.path_cycles.keys_of_links.Given as goal

abbrev pub invariant-loop-link : goal.invariant-loop-link
invariant-loop-link g l = l.found.items ≡ map (key_of_link l.keys) (take l.link-index l.links)
