-- The prices of all kinds together.
use Rattle.tomex_prices.proofs.Counting.{counted_all}
use Rattle.tomex_prices.proofs.counts.count_relevant.Goals as goal

pub returns : goal.returns
returns g c =
    counted_all c.args.study.now c.rows-rows.ensures.value c.count_stations.ensures.count c.count_options.ensures.count
    c.count_price-bus.ensures.count c.count_price-width.ensures.count
