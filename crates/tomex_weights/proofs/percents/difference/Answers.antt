-- One more program.
use Rattle.std.proofs.lemmas.Grind.{common_steps}
use Rattle.std.proofs.Common.{◌≡◌, ◌<◌, arith, length, get_or}
use Rattle.tomex_weights.proofs.Differences.{next_part}
use Rattle.tomex_weights.proofs.percents.difference.Goals as goal

pub overflow_add-sum : goal.overflow_add-sum
overflow_add-sum g c =
    let s = c.args.surveyed.now in
    let low : c.loop-place.place < length s.programs =
    rw c.study.ensures at (rw c.programs-program-items.ensures.value at c.loop-place-test.true) in
    omega (arith, c.loop-place.invariant.bound, c.weighted-sum.ensures.few, low, c.keeps_limits.ensures.few_programs)

pub loop-place-preserved : goal.loop-place-preserved
loop-place-preserved g c =
    let s = c.args.surveyed.now in
    let k = c.loop-place.place in
    let low : k < length s.programs =
    rw c.study.ensures at (rw c.programs-program-items.ensures.value at c.loop-place-test.true) in
    let p = c.program-item.result in
    let item : p ≡ get_or s.programs k p =
    rw c.study.ensures at (rw c.programs-program-items.ensures.value at c.program-item.is) in
    record {
      sum = next_part s c.args.a c.args.b k p low item c.weight.ensures.value c.total-own.ensures c.total-other.ensures
          c.weighted-sum.ensures.part c.loop-place.invariant.sum;
      bound = omega (arith, c.loop-place.invariant.bound, c.weighted-sum.ensures.few);
    }

pub total-other-requires-clause-place : goal.total-other-requires-clause-place
total-other-requires-clause-place = grind (arith, common_steps)

pub total-own-requires-clause-place : goal.total-own-requires-clause-place
total-own-requires-clause-place = grind (arith, common_steps)
