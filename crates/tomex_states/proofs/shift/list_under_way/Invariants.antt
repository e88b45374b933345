-- With those among the steps left, the list is complete.
use Rattle.std.proofs.Common.{◌≡◌, ◌≤◌, ◌++◌, drop, reverse, take}
use Rattle.tomex_states.specs.Reuse.{accesses_under_way}
use Rattle.tomex_states.proofs.shift.list_under_way.Given as goal

abbrev pub invariant-loop-place : goal.invariant-loop-place
invariant-loop-place g l = (l.number ≤ l.count)
    × (l.accesses.items ++ accesses_under_way l.from (drop l.number l.window.finishes) (reverse (take l.place l.facts))
    ≡ accesses_under_way l.from l.window.finishes (reverse l.facts))
