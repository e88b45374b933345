-- One more row.
use Rattle.std.proofs.lemmas.Grind.{common_steps}
use Rattle.std.proofs.Common.{◌<◌, ap, arith, length}
use Rattle.tomex_pareto.specs.declared.front_row.FrontRow.{FrontRow}
use Rattle.tomex_study.specs.Cycles.{cycles_of}
use Rattle.tomex_study.proofs.Rows.{as_many_cycles}
use Rattle.tomex_prices.proofs.AllRows.{made_apart, next_priced, small_more}
use Rattle.tomex_prices.proofs.priced_row.rows_with.Goals as goal

pub row-cycles-requires : goal.row-cycles-requires
row-cycles-requires g c =
    rw c.study-study.ensures at (rw c.rows-config-items.ensures.value at c.loop-row-test.true)

pub loop-row-preserved : goal.loop-row-preserved
loop-row-preserved g c =
    let s = c.args.surveyed.now in
    let k = c.loop-row.row in
    let config = c.config-item.result in
    let row = c.with_price_apart.result in
    let before = c.loop-row.apart.items in
    let within : k < length s.rows =
    rw c.study-study.ensures at (rw c.rows-config-items.ensures.value at c.loop-row-test.true) in
    let many = as_many_cycles s in
    let less : k < length (cycles_of s) = omega (arith, many, within) in
    let item = rw c.study-study.ensures at (rw c.rows-config-items.ensures.value at c.config-item.is) in
    let made = made_apart s c.args.price k config c.prices-prices.result c.row-cycles.result.cycles row within
    (rw c.study-study.ensures at c.prices-prices.ensures.value) (ap (λ (r : FrontRow). r.cycles) c.row-cycles.ensures)
    c.with_price_apart.ensures.parts in
    record {
      rows = next_priced c.args.price s.prices k s.rows (cycles_of s) before within less item made
          c.in_ok-push.ensures.items c.loop-row.invariant.rows;
      small = small_more before c.push.new.self.items row c.in_ok-push.ensures.items c.with_price_apart.ensures.small
          c.loop-row.invariant.small;
    }

pub returns-clause-rows : goal.returns-clause-rows
returns-clause-rows = grind (arith, common_steps)
