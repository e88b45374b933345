-- The jumps so far.
use Rattle.std.proofs.Common.{◌≡◌, length}
use Rattle.tomex_loops.specs.Jumps.{AreJumps}
use Rattle.tomex_loops.proofs.forest.jumps_of.Given as goal

abbrev pub invariant-loop-place : goal.invariant-loop-place
invariant-loop-place g l = record {
  many : length l.jumps.items ≡ l.place;
  depths : length l.depths.items ≡ l.place;
  jumps : AreJumps l.loops l.jumps.items;
}
