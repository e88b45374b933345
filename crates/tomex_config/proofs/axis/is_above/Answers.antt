-- A product that is above the limit stays above it, since no remaining length is 0.
use Rattle.std.proofs.Common.{get_or, arith}
use Rattle.std.proofs.Math.Nat.{mul-le-mul_right, mul-le-mul}
use Rattle.tomex_config.proofs.Lengths.{product_positive, splits, too_many}
use Rattle.tomex_config.proofs.axis.is_above.Goals as goal

pub returns-then-length-gt-MOST_ROWS : goal.returns-then-length-gt-MOST_ROWS
returns-then-length-gt-MOST_ROWS c =
    let kept = c.loop-length.invariant in
    let next = splits c.loop-length.rows c.loop-length.length-index c.args.lengths.now c.loop-length-test.true kept.rest
    kept.whole in
    let some = mul-le-mul_right (get_or c.args.lengths.now c.loop-length.length-index 0) kept.positive in
    too_many c.loop-length.rows _ _ _ (product_positive _ next.rest)
    (omega (arith, some, c.if-length-gt-MOST_ROWS.true)) next.whole

pub returns-then-rows-gt-MOST_ROWS : goal.returns-then-rows-gt-MOST_ROWS
returns-then-rows-gt-MOST_ROWS c =
    let kept = c.loop-length.invariant in
    let next = splits c.loop-length.rows c.loop-length.length-index c.args.lengths.now c.loop-length-test.true kept.rest
    kept.whole in
    too_many c.loop-length.rows _ _ _ (product_positive _ next.rest) c.if-rows-gt-MOST_ROWS.true next.whole

pub loop-length-preserved : goal.loop-length-preserved
loop-length-preserved c =
    let kept = c.loop-length.invariant in
    let next = splits c.loop-length.rows c.loop-length.length-index c.args.lengths.now c.loop-length-test.true kept.rest
    kept.whole in
    record {
      positive = omega (arith, mul-le-mul kept.positive next.positive);
      few = c.if-rows-gt-MOST_ROWS.false;
      whole = next.whole;
      rest = next.rest;
    }
