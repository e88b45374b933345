use Rattle.std.proofs.Common.{arith, sym}
use Rattle.std.proofs.lemmas.Grind.{common_steps}
use Rattle.tomex_config.specs.Configuration.{is_between, with_buses}
use Rattle.std.proofs.lemmas.List.{append-nil}
use Rattle.tomex_config.proofs.Ranges.{passes_at}
use Rattle.tomex_config.proofs.Grown.{all_rows, one_config}
use Rattle.tomex_config.proofs.product.vary_buses.Goals as goal

pub loop-count-preserved : goal.loop-count-preserved
loop-count-preserved g c = grind (arith, common_steps)

pub loop-config-preserved : goal.loop-config-preserved
loop-config-preserved g c = one_config with_buses c.args.buses.now c.args.rows.now c.loop-config.config-index
    c.loop-count.count-index c.config-item.result c.loop-config.varied.items c.loop-count.varied.items
    c.loop-config-test.true c.loop-count-test.false c.loop-config.invariant c.config-item.is c.loop-count.invariant

pub with_buses-requires : goal.with_buses-requires
with_buses-requires g c = passes_at (is_between 1 8) c.args.buses.now c.loop-count.count-index _ c.requires
    c.loop-count-test.true

pub loop-config-init : goal.loop-config-init
loop-config-init g c = c.new-varied.ensures.items

pub loop-count-init : goal.loop-count-init
loop-count-init g c = sym (append-nil c.loop-config.varied.items)

pub returns : goal.returns
returns g c = all_rows with_buses c.args.buses.now c.args.rows.now c.loop-config.varied.items c.loop-config.config-index
    c.loop-config.invariant c.loop-config-test.false
