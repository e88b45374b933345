-- The state so far is what is defined, and leads to the one at the end.
use Rattle.std.proofs.Common.{◌≡◌, ◌≤◌, ◌++◌, drop, length, map}
use Rattle.tomex_loops.specs.Visits.{Walk, innermost, innermost_here, setting_out, walk_after, walks_after}
use Rattle.tomex_loops.specs.Walking.{IsWalking, ShowsWalk, found_by}
use Rattle.tomex_loops.proofs.visiting.walk.Given as goal

abbrev pub invariant-loop-now : goal.invariant-loop-now
invariant-loop-now g l = record {
  state : IsWalking l.walker;
  few : length l.walker.visits.items ≤ l.now;
  shows : (w : Walk) × ShowsWalk w l.walker × (w.passed ≡ l.now)
      × (walk_after (found_by l.forest.heads.items l.forest.loops.items) w (drop l.now l.comings)
      ≡ walk_after (found_by l.forest.heads.items l.forest.loops.items) setting_out l.comings)
      × (l.walker.innermost.items ++ map (λ w. innermost w.under_way)
      (walks_after (found_by l.forest.heads.items l.forest.loops.items) w (drop l.now l.comings))
      ≡ map (λ w. innermost w.under_way)
      (walks_after (found_by l.forest.heads.items l.forest.loops.items) setting_out l.comings))
      × (l.walker.here.items ++ map (λ w. innermost_here w.under_way)
      (walks_after (found_by l.forest.heads.items l.forest.loops.items) w (drop l.now l.comings))
      ≡ map (λ w. innermost_here w.under_way)
      (walks_after (found_by l.forest.heads.items l.forest.loops.items) setting_out l.comings));
}
