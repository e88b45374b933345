use Rattle.std.proofs.lemmas.Grind.{common_steps}
use Rattle.std.proofs.Common.{◌<◌, List, arith, length, subst}
use Rattle.std.proofs.lemmas.List.{drop_more}
use Rattle.std.specs.Prelude.{slice_index_or}
use Rattle.tomex_samples.specs.declared.counts.Entry.{Entry}
use Rattle.tomex_samples.proofs.Overlap.{IsAdding, adding_more}
use Rattle.tomex_samples.proofs.distances.add_row.Goals as goal

pub loop-entry-preserved : goal.loop-entry-preserved
loop-entry-preserved c = λ counts s size.
    let k = c.loop-entry.entry-index in
    let none : Entry = record { word = 0; count = 0 } in
    let here : k < length c.args.row.now = omega arith in
    rw (c.from.ensures) (adding_more (slice_index_or c.args.row.now k none) _ counts _ _
    (subst (λ (es : List Entry). IsAdding es counts c.args.sums.now c.loop-entry.sums)
    (drop_more c.args.row.now k none here) (c.loop-entry.invariant counts s size)))

pub overflow_add-sums : goal.overflow_add-sums
overflow_add-sums = grind (arith, common_steps)

pub bounds-sums-entry : goal.bounds-sums-entry
bounds-sums-entry = grind (arith, common_steps)

pub returns : goal.returns
returns = grind (arith, common_steps)

pub bounds-sums-entry-in-loop-entry : goal.bounds-sums-entry-in-loop-entry
bounds-sums-entry-in-loop-entry = grind (arith, common_steps)
