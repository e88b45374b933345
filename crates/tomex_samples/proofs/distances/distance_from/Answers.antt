use Rattle.std.proofs.lemmas.Grind.{common_steps}
use Rattle.std.proofs.Common.{◌≡◌, ◌*◌, arith, length, ap}
use Rattle.std.specs.Prelude.{slice_index}
use Rattle.tomex_samples.specs.Numbers.{sum_below}
use Rattle.tomex_samples.proofs.Overlap.{common_most, differences}
use Rattle.tomex_samples.proofs.distances.distance_from.Goals as goal

pub overflow_sub-result : goal.overflow_sub-result
overflow_sub-result c =
    let r = c.requires.row in
    let is = c.common_with.ensures r.0 r.1.sparse r.1.size in
    let all : c.args.times * sum_below (λ w. slice_index r.0 w) (length c.args.sums.now) ≡ c.args.times * c.args.steps =
    ap (λ k. c.args.times * k) r.1.sum in
    rw (c.from.ensures) (omega (arith, is, all, common_most c.args.times r.0 c.args.sums.now (length c.args.sums.now)))

pub returns-clause-value : goal.returns-clause-value
returns-clause-value c = λ counts row.
    let is = c.common_with.ensures counts row.sparse row.size in
    let all : c.args.times * sum_below (λ w. slice_index counts w) (length c.args.sums.now) ≡ c.args.times *
    c.args.steps =
    ap (λ k. c.args.times * k) row.sum in
    rw (c.from.ensures) (omega (
      arith,
      is,
      all,
      c.requires.sums,
      differences c.args.times counts c.args.sums.now (length c.args.sums.now),
    ))

pub common_with-requires : goal.common_with-requires
common_with-requires = grind (arith, common_steps)
