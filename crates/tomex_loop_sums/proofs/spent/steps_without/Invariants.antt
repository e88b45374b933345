-- The steps so far that are outside of all loops.
use Rattle.std.proofs.Common.{◌≡◌, ◌≤◌, map, take}
use Rattle.std.specs.Prelude.{is_none}
use Rattle.tomex_stretches.specs.Cycles.{sum_where}
use Rattle.tomex_loop_sums.proofs.spent.steps_without.Given as goal

abbrev pub invariant-loop-key : goal.invariant-loop-key
invariant-loop-key l = record {
  most : l.count ≤ l.key-index;
  is : l.count ≡ sum_where is_none (take l.key-index l.keys) (take l.key-index (map (λ k. 1) l.keys));
}
