-- The configurations so far aren't too many, and no remaining length is 0.
use Rattle.std.proofs.Common.{◌≡◌, ◌*◌, ◌≤◌, false, drop}
use Rattle.tomex_config.specs.Grid.{product, has_zero}
use Rattle.tomex_config.proofs.axis.is_above.Given as goal

abbrev pub invariant-loop-length : goal.invariant-loop-length
invariant-loop-length l = record {
  positive : 1 ≤ l.rows;
  few : l.rows ≤ 16384;
  whole : l.rows * product (drop l.length-index l.lengths) ≡ product l.lengths;
  rest : has_zero (drop l.length-index l.lengths) ≡ false;
}
