-- The column of one price more.
use Rattle.tomex_layout.proofs.Loops.{item_more}
use Rattle.tomex_study.specs.StudyFront.{front_of_study}
use Rattle.tomex_prices.specs.PricesTable.{price_column}
use Rattle.tomex_prices.proofs.table.push_prices.Goals as goal

pub loop-price-preserved : goal.loop-price-preserved
loop-price-preserved g c =
    item_more (price_column c.args.surveyed.now (front_of_study c.args.surveyed.now)) c.args.relevant.now
    c.loop-price.price-index _ _ _ _ _ c.loop-price-test.true c.in_ok-push.ensures.items
    c.in_ok-price_column.ensures c.loop-price.invariant
