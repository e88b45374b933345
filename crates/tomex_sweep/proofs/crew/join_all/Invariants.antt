-- What the parts have, and what the remaining handles will return.
use Rattle.std.proofs.Common.{◌≡◌, ◌++◌, map, false}
use Rattle.std.specs.Vec.Iter.{into_iter_items}
use Rattle.tomex_sweep.specs.Crews.{given_by, owed_by}
use Rattle.tomex_sweep.proofs.crew.join_all.Given as goal

abbrev pub invariant-loop-handle : goal.invariant-loop-handle
invariant-loop-handle g l = l.refused ≡ false → map given_by l.parts.items
    ++ map (λ h. owed_by h.promise.0.value) (into_iter_items l.handle-iterator)
    ≡ map (λ h. owed_by h.promise.0.value) l.fn.handles.items
