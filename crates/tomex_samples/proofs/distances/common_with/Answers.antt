use Rattle.std.proofs.lemmas.Grind.{common_steps}
use Rattle.std.proofs.Common.{◌<◌, List, arith, length, subst}
use Rattle.std.proofs.lemmas.List.{drop_all, drop_more}
use Rattle.std.specs.Prelude.{slice_index_or}
use Rattle.tomex_samples.specs.declared.counts.Entry.{Entry}
use Rattle.tomex_samples.proofs.Overlap.{IsCommon, common_all, common_more, common_most, few_times}
use Rattle.tomex_samples.proofs.distances.common_with.Goals as goal

pub overflow_mul-times : goal.overflow_mul-times
overflow_mul-times c =
    let k = c.loop-entry.entry-index in
    let none : Entry = record { word = 0; count = 0 } in
    let here : k < length c.args.row.now = omega arith in
    let r = c.requires in
    let few = few_times _ (slice_index_or c.args.row.now k none) _ c.args.times r.0 c.args.sums.now
    (subst (λ (es : List Entry). IsCommon c.loop-entry.common es c.args.times r.0 c.args.sums.now)
    (drop_more c.args.row.now k none here) (c.loop-entry.invariant r.0 r.1 r.2)) in
    rw (c.from.ensures) (omega (arith, few, r.3))

pub overflow_add-common : goal.overflow_add-common
overflow_add-common c =
    let k = c.loop-entry.entry-index in
    let none : Entry = record { word = 0; count = 0 } in
    let here : k < length c.args.row.now = omega arith in
    let r = c.requires in
    let more = common_more _ (slice_index_or c.args.row.now k none) _ c.args.times r.0 c.args.sums.now
    (subst (λ (es : List Entry). IsCommon c.loop-entry.common es c.args.times r.0 c.args.sums.now)
    (drop_more c.args.row.now k none here) (c.loop-entry.invariant r.0 r.1 r.2)) in
    rw (c.min-common.ensures, c.from.ensures)
    (omega (arith, more.sum, common_most c.args.times r.0 c.args.sums.now (length c.args.sums.now), r.3))

pub loop-entry-preserved : goal.loop-entry-preserved
loop-entry-preserved c = λ counts s size.
    let k = c.loop-entry.entry-index in
    let none : Entry = record { word = 0; count = 0 } in
    let here : k < length c.args.row.now = omega arith in
    rw (c.min-common.ensures, c.from.ensures)
    (common_more _ (slice_index_or c.args.row.now k none) _ c.args.times counts c.args.sums.now
    (subst (λ (es : List Entry). IsCommon c.loop-entry.common es c.args.times counts c.args.sums.now)
    (drop_more c.args.row.now k none here) (c.loop-entry.invariant counts s size)))

pub returns : goal.returns
returns c = λ counts s size.
    let all = drop_all c.loop-entry.entry-index c.args.row.now (omega arith) in
    common_all c.loop-entry.common c.args.times counts c.args.sums.now
    (subst (λ (es : List Entry). IsCommon c.loop-entry.common es c.args.times counts c.args.sums.now) all
    (c.loop-entry.invariant counts s size))

pub bounds-sums-entry : goal.bounds-sums-entry
bounds-sums-entry = grind (arith, common_steps)
