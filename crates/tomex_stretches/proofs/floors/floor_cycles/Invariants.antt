-- The record kept is that of the floor of the latest step's stretch, and the cycles so far are those before its step.
use Rattle.std.proofs.Common.{ℕ, ◌*◌, ◌≡◌, ◌≤◌, List, ◌∷◌, Option, reverse, take}
use Rattle.std.specs.Prelude.{slice_index}
use Rattle.tomex_config.specs.Configuration.{latency_of}
use Rattle.tomex_floor.specs.Floor.{floors_of}
use Rattle.tomex_stretches.specs.Cycles.{floors_before, stretch_of}
use Rattle.tomex_stretches.specs.Kept.{AreTouched, AreTouchedBy, IsLatest, IsLatestBy}
use Rattle.tomex_stretches.proofs.floors.floor_cycles.Given as goal

abbrev pub invariant-loop-k : goal.invariant-loop-k
invariant-loop-k g l = record {
  before : (key : Option ℕ) (older : List (Option ℕ)) → reverse (take l.k l.keys) ≡ key ∷ older → l.before ≡ key;
  latest : IsLatest (floors_of (latency_of l.config) l.config.width
      (stretch_of l.before (reverse (take l.k l.run)) (reverse (take l.k l.keys)))) l.latest;
  accesses : AreTouched l.latest.base (floors_of (latency_of l.config) l.config.width
      (stretch_of l.before (reverse (take l.k l.run)) (reverse (take l.k l.keys)))) l.accesses.by_byte;
  by : IsLatestBy l.latest.last l.latest;
  touched : AreTouchedBy l.latest.last l.accesses.by_byte;
  last : l.latest.last ≤ 67 * l.k;
  issue : slice_index l.latest.issues 0 ≤ l.latest.end;
  cycles : l.cycles.items ≡ reverse (floors_before (latency_of l.config) l.config.width
      (reverse (take l.k l.run)) (reverse (take l.k l.keys)));
}
