-- What the handles will return, then what the remaining workers must; all of these can start.
use Rattle.std.proofs.Common.{◌≡◌, ◌++◌, map, All, length}
use Rattle.std.specs.Vec.Iter.{into_iter_items}
use Rattle.tomex_sweep.specs.Crews.{CanStart, owed_by}
use Rattle.tomex_sweep.proofs.crew.start_all.Given as goal

abbrev pub invariant-loop-worker : goal.invariant-loop-worker
invariant-loop-worker g l =
    (map (λ h. owed_by h.promise.0.value) l.handles.items ++ map owed_by (into_iter_items l.worker-iterator)
    ≡ map owed_by l.fn.workers.items)
    × All (CanStart l.shop.board.now (length g.J.Plan.costs)) (into_iter_items l.worker-iterator)
