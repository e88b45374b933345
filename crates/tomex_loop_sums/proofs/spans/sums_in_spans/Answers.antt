-- Each turn adds a span to the sum of its key.
use Rattle.std.proofs.lemmas.Grind.{common_steps}
use Rattle.std.proofs.Common.{◌∙◌, List, ap, arith, get_or, max, refl, rules, sym, take_all}
use Rattle.std.proofs.lemmas.List.{length-set}
use Rattle.tomex_loop_sums.specs.declared.spans.Span.{Span}
use Rattle.tomex_loop_sums.specs.Spans.{sum_in}
use Rattle.tomex_loop_sums.proofs.Spanned.{first_order, read_first, sum_few, summed_more, summed_none}
use Rattle.tomex_loop_sums.proofs.spans.sums_in_spans.Goals as goal

abbrev none : Span
none = record { key = 0; from = 0; to = 0 }

pub overflow_sub-index : goal.overflow_sub-index
overflow_sub-index g c =
    let within = c.requires.within c.loop-span.span-index none c.loop-span-test.true in
    let to = read_first c.args.numbers.now c.in_ok-first.first.items
    (get_or c.args.spans.now c.loop-span.span-index none).to c.index.result.now c.in_ok-first.ensures.count
    c.in_ok-first.ensures.sums within c.index.ensures in
    let start = read_first c.args.numbers.now c.in_ok-first.first.items c.min-start.result
    c.index-in-loop-span.result.now c.in_ok-first.ensures.count c.in_ok-first.ensures.sums
    (omega (arith, c.min-start.ensures, within)) c.index-in-loop-span.ensures in
    let order = first_order c.args.numbers.now c.min-start.result
    (get_or c.args.spans.now c.loop-span.span-index none).to (omega (arith, c.min-start.ensures)) in
    omega (arith, to, start, order)

pub overflow_add-index_mut : goal.overflow_add-index_mut
overflow_add-index_mut g c =
    let small = c.requires.keys c.loop-span.span-index none c.loop-span-test.true in
    let within = c.requires.within c.loop-span.span-index none c.loop-span-test.true in
    let to = read_first c.args.numbers.now c.in_ok-first.first.items
    (get_or c.args.spans.now c.loop-span.span-index none).to c.index.result.now c.in_ok-first.ensures.count
    c.in_ok-first.ensures.sums within c.index.ensures in
    let start = read_first c.args.numbers.now c.in_ok-first.first.items c.min-start.result
    c.index-in-loop-span.result.now c.in_ok-first.ensures.count c.in_ok-first.ensures.sums
    (omega (arith, c.min-start.ensures, within)) c.index-in-loop-span.ensures in
    let few = sum_few c.args.spans.now c.args.numbers.now c.loop-span.sums.items c.loop-span.ends.items
    c.loop-span.span-index none c.index_mut.result.now c.index-end.result.now c.index.result.now
    c.index-in-loop-span.result.now c.min-start.result c.max.result
    (max (get_or c.args.spans.now c.loop-span.span-index none).to c.index-end.result.now) c.requires.order
    c.requires.spans
    c.requires.within c.loop-span-test.true (omega (arith, small, c.loop-span.invariant.sums))
    (c.loop-span.invariant.sums ∙ sym c.loop-span.invariant.ends) c.index_mut.ensures.value c.index-end.ensures
    to start c.min-start.ensures c.max.ensures refl
    (c.loop-span.invariant.summed (get_or c.args.spans.now c.loop-span.span-index none).key small) in
    omega (arith, few, c.requires.few)

pub loop-span-init : goal.loop-span-init
loop-span-init g c = record {
  sums = search rules;
  ends = search rules;
  summed = λ n l. summed_none n c.args.count c.args.numbers.now c.in_ok-sums.sums.items c.in_ok-ends.ends.items l
      (c.in_ok-sums.ensures.items_if_clones_equal (λ y e. e)) (c.in_ok-ends.ensures.items_if_clones_equal (λ y e. e));
}

pub loop-span-preserved : goal.loop-span-preserved
loop-span-preserved g c =
    let small = c.requires.keys c.loop-span.span-index none c.loop-span-test.true in
    let within = c.requires.within c.loop-span.span-index none c.loop-span-test.true in
    let to = read_first c.args.numbers.now c.in_ok-first.first.items
    (get_or c.args.spans.now c.loop-span.span-index none).to c.index.result.now c.in_ok-first.ensures.count
    c.in_ok-first.ensures.sums within c.index.ensures in
    let start = read_first c.args.numbers.now c.in_ok-first.first.items c.min-start.result
    c.index-in-loop-span.result.now c.in_ok-first.ensures.count c.in_ok-first.ensures.sums
    (omega (arith, c.min-start.ensures, within)) c.index-in-loop-span.ensures in
    record {
      sums = length-set c.loop-span.sums.items (get_or c.args.spans.now c.loop-span.span-index none).key _
          ∙ c.loop-span.invariant.sums;
      ends = length-set c.loop-span.ends.items (get_or c.args.spans.now c.loop-span.span-index none).key _
          ∙ c.loop-span.invariant.ends;
      summed = λ n l. summed_more c.args.spans.now c.args.numbers.now c.loop-span.sums.items c.loop-span.ends.items
          c.loop-span.span-index none c.index_mut.result.now c.index-end.result.now c.index.result.now
          c.index-in-loop-span.result.now c.min-start.result c.max.result c.max-in-loop-span.result c.requires.order
          c.requires.spans
          c.requires.within c.loop-span-test.true (omega (arith, small, c.loop-span.invariant.sums))
          (c.loop-span.invariant.sums ∙ sym c.loop-span.invariant.ends) c.index_mut.ensures.value c.index-end.ensures
          to start c.min-start.ensures c.max.ensures c.max-in-loop-span.ensures n (c.loop-span.invariant.summed n l);
    }

pub returns-clause-sums : goal.returns-clause-sums
returns-clause-sums g c = λ n l.
    (let so = c.loop-span.invariant.summed n l in so.is)
    ∙ ap (λ (spans : List Span). sum_in n spans c.args.numbers.now)
    (take_all c.loop-span.span-index c.args.spans.now c.loop-span-test.false)

pub index-end-requires : goal.index-end-requires
index-end-requires = grind (arith, common_steps)

pub index_mut-requires-in-loop-span : goal.index_mut-requires-in-loop-span
index_mut-requires-in-loop-span = grind (arith, common_steps)

pub index_mut-requires : goal.index_mut-requires
index_mut-requires = grind (arith, common_steps)

pub index-requires : goal.index-requires
index-requires = grind (arith, common_steps)

pub index-requires-in-loop-span : goal.index-requires-in-loop-span
index-requires-in-loop-span = grind (arith, common_steps)
