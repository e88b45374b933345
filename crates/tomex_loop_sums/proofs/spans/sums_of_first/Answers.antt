-- One sum more.
use Rattle.std.proofs.Common.{◌∙◌, ◌+◌, ap, length, refl}
use Rattle.tomex_loop_sums.proofs.Sofar.{all_sums, counted, first_sum, one_more, sum_fits, sum_more, sums_more}
use Rattle.tomex_loop_sums.proofs.Sofar.{sums_of_none}
use Rattle.tomex_loop_sums.proofs.spans.sums_of_first.Goals as goal

pub loop-number-preserved : goal.loop-number-preserved
loop-number-preserved g c =
    let numbers = c.args.numbers.now in
    let i = c.loop-number.number-index in
    let all = sum_more numbers i c.loop-number.sum c.loop-number-test.true c.loop-number.invariant.all in
    let grown = c.in_ok-push-2.ensures.items in
    record {
      count = one_more numbers c.loop-number.sums.items _ i _ c.loop-number.invariant.count grown;
      all = all;
      each = sums_more numbers c.loop-number.sums.items _ i _ c.loop-number.invariant.count grown all
          c.loop-number.invariant.each;
    }

pub overflow_add-sum : goal.overflow_add-sum
overflow_add-sum g c = record {
  fits = sum_fits c.args.numbers.now c.loop-number.number-index c.loop-number.sum c.loop-number-test.true
      c.loop-number.invariant.all c.requires;
}

pub returns-clause-sums : goal.returns-clause-sums
returns-clause-sums g c =
    all_sums c.args.numbers.now _ c.loop-number.number-index c.loop-number-test.false c.loop-number.invariant.each

pub loop-number-init : goal.loop-number-init
loop-number-init g c =
    let first = first_sum _ _ c.new-sums.ensures.items c.in_ok-push.ensures.items in
    record { count = ap length first; all = refl; each = sums_of_none c.args.numbers.now _ first }

pub returns-clause-count : goal.returns-clause-count
returns-clause-count g c =
    c.loop-number.invariant.count
    ∙ ap (λ n. n + 1) (counted _ _ c.loop-number.auto.number-index-end c.loop-number-test.false)
