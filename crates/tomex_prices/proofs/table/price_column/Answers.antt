-- The entry of one row more.
use Rattle.std.proofs.Common.{◌∙◌, ap, get_or, arith}
use Rattle.std.proofs.lemmas.Grind.{common_steps}
use Rattle.tomex_pareto.specs.declared.front_row.FrontRow.{FrontRow}
use Rattle.tomex_layout.proofs.Loops.{item_more}
use Rattle.tomex_layout.specs.Table.{TableColumn}
use Rattle.tomex_prices.specs.Interval.{range_text}
use Rattle.tomex_prices.specs.Studies.{interval_of}
use Rattle.tomex_prices.proofs.RangeTexts.{text_of_range}
use Rattle.tomex_prices.proofs.table.price_column.Goals as goal

pub loop-row-preserved : goal.loop-row-preserved
loop-row-preserved g c =
    let none : FrontRow = record { row = 0; cost = 0; cycles = 0 } in
    let text = text_of_range _ _ _ (get_or c.front-row-items.result.now c.loop-row.row-index none) _ _
    c.in_ok-format-3.ensures.ok c.interval_of-range.ensures.ends c.study-study.ensures in
    let grown = ap (λ (x : TableColumn). x.entries) c.in_ok-push-2.ensures.one in
    let entries = item_more (λ r. range_text (interval_of c.args.surveyed.now c.args.price r))
    c.front-row-items.result.now c.loop-row.row-index none _ _ _ _ c.loop-row-test.true grown text
    c.loop-row.invariant.entries in
    record {
      name = ap (λ (x : TableColumn). x.name) c.in_ok-push-2.ensures.one ∙ c.loop-row.invariant.name;
      entries = entries;
    }

pub interval_of-range-requires-clause-front : goal.interval_of-range-requires-clause-front
interval_of-range-requires-clause-front = grind (arith, common_steps)

pub interval_of-range-requires-clause-small : goal.interval_of-range-requires-clause-small
interval_of-range-requires-clause-small = grind (arith, common_steps)

pub offset_bounds-row-items-row-index : goal.offset_bounds-row-items-row-index
offset_bounds-row-items-row-index = grind (arith, common_steps)
