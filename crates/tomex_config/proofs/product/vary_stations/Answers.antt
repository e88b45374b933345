use Rattle.std.proofs.Common.{sym}
use Rattle.tomex_config.specs.Configuration.{is_between, with_stations}
use Rattle.std.proofs.lemmas.List.{append-nil}
use Rattle.tomex_config.proofs.Ranges.{passes_at}
use Rattle.tomex_config.proofs.Grown.{all_rows, one_config, one_value}
use Rattle.tomex_config.proofs.product.vary_stations.Goals as goal

pub loop-count-preserved : goal.loop-count-preserved
loop-count-preserved g c = one_value (with_stations c.args.pool) c.config-item.result c.args.counts.now
    c.loop-count.count-index _ c.loop-config.varied.items c.loop-count.varied.items c.push.new.self.items
    c.with_stations.result c.loop-count-test.true c.loop-count.invariant c.with_stations.ensures
    c.in_ok-push.ensures.items

pub loop-config-preserved : goal.loop-config-preserved
loop-config-preserved g c = one_config (with_stations c.args.pool) c.args.counts.now c.args.rows.now
    c.loop-config.config-index c.loop-count.count-index c.config-item.result c.loop-config.varied.items
    c.loop-count.varied.items c.loop-config-test.true c.loop-count-test.false c.loop-config.invariant c.config-item.is
    c.loop-count.invariant

pub with_stations-requires : goal.with_stations-requires
with_stations-requires g c = passes_at (is_between 1 16) c.args.counts.now c.loop-count.count-index _ c.requires
    c.loop-count-test.true

pub loop-config-init : goal.loop-config-init
loop-config-init g c = c.new-varied.ensures.items

pub loop-count-init : goal.loop-count-init
loop-count-init g c = sym (append-nil c.loop-config.varied.items)

pub returns : goal.returns
returns g c = all_rows (with_stations c.args.pool) c.args.counts.now c.args.rows.now c.loop-config.varied.items
    c.loop-config.config-index c.loop-config.invariant c.loop-config-test.false
