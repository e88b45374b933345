-- A price is counted if no row before has its option, and it is relevant.
use Rattle.std.proofs.Common.{◌≡◌, ◌∙◌, arith, sym, take}
use Rattle.tomex_prices.specs.Prices.{is_relevant}
use Rattle.tomex_prices.proofs.Counting.{counted_at_first, counted_at_last, counted_left, counted_new, counted_seen}
use Rattle.tomex_prices.proofs.FirstOptions.{has}
use Rattle.tomex_prices.proofs.counts.count_choices.Goals as goal
use Rattle.tomex_prices.proofs.counts.count_choices.Goals.{then-not-has_option+then-is_relevant, else-not-has_option}
use Rattle.tomex_prices.proofs.counts.count_choices.Goals.{else-not-has_option-via-then-not-has_option+else-is_relevant}
use Rattle.tomex_prices.proofs.counts.count_choices.Goals.{else-not-has_option-via-else-not-has_option}

pub loop-place-init : goal.loop-place-init
loop-place-init c = record {
  count = counted_at_first (is_relevant c.args.rows.now) c.args.unit c.args.rows.now;
  few = omega arith;
}

pub loop-place-preserved : goal.loop-place-preserved
loop-place-preserved c =
    let unit = c.args.unit in
    let rows = c.args.rows.now in
    let k = c.loop-place.place in
    let p = is_relevant rows in
    let found : c.has_option.result ≡ has (take k rows) unit c.option-option.result = c.has_option.ensures in
    elim c.if-not-has_option.branch [
      | then-not-has_option+then-is_relevant w ↦ record {
        count = rw w.count-is (counted_new p unit rows k c.index-rows-place.result c.option-option.result
            c.has_option.result _ _ c.loop-place-test.true c.index-rows-place.is c.option-option.ensures.chosen found
            c.loop-place.invariant.count w.if-not-has_option.true
            (sym w.is_relevant.ensures ∙ w.if-is_relevant.true));
        few = omega (arith, w.count-is, c.loop-place.invariant.few);
      }
      | else-not-has_option w ↦ record {
        count = rw w.count-is (elim w.else-not-has_option.branch [
          | else-not-has_option-via-then-not-has_option+else-is_relevant v ↦
              counted_left p unit rows k c.index-rows-place.result c.option-option.result c.has_option.result _ _
              c.loop-place-test.true c.index-rows-place.is c.option-option.ensures.chosen found
              c.loop-place.invariant.count v.if-not-has_option.true
              (sym v.is_relevant.ensures ∙ v.if-is_relevant.false)
          | else-not-has_option-via-else-not-has_option v ↦
              counted_seen p unit rows k c.index-rows-place.result c.option-option.result c.has_option.result _ _
              c.loop-place-test.true c.index-rows-place.is c.option-option.ensures.chosen found
              c.loop-place.invariant.count v.if-not-has_option.false
        ]);
        few = omega (arith, w.count-is, c.loop-place.invariant.few);
      }
    ]

pub returns-clause-count : goal.returns-clause-count
returns-clause-count c =
    counted_at_last (is_relevant c.args.rows.now) c.args.unit c.args.rows.now c.loop-place.place _ _
    c.loop-place-test.false c.loop-place.invariant.count
