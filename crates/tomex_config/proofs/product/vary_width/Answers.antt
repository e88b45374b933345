use Rattle.std.proofs.Common.{arith, sym}
use Rattle.std.proofs.lemmas.Grind.{common_steps}
use Rattle.tomex_config.specs.Configuration.{is_between, with_width}
use Rattle.std.proofs.lemmas.List.{append-nil}
use Rattle.tomex_config.proofs.Ranges.{passes_at}
use Rattle.tomex_config.proofs.Grown.{all_rows, one_config}
use Rattle.tomex_config.proofs.product.vary_width.Goals as goal

pub loop-width-preserved : goal.loop-width-preserved
loop-width-preserved g c = grind (arith, common_steps)

pub loop-config-preserved : goal.loop-config-preserved
loop-config-preserved g c = one_config with_width c.args.widths.now c.args.rows.now c.loop-config.config-index
    c.loop-width.width-index c.config-item.result c.loop-config.varied.items c.loop-width.varied.items
    c.loop-config-test.true c.loop-width-test.false c.loop-config.invariant c.config-item.is c.loop-width.invariant

pub with_width-requires : goal.with_width-requires
with_width-requires g c = passes_at (is_between 1 4) c.args.widths.now c.loop-width.width-index _ c.requires
    c.loop-width-test.true

pub loop-config-init : goal.loop-config-init
loop-config-init g c = c.new-varied.ensures.items

pub loop-width-init : goal.loop-width-init
loop-width-init g c = sym (append-nil c.loop-config.varied.items)

pub returns : goal.returns
returns g c = all_rows with_width c.args.widths.now c.args.rows.now c.loop-config.varied.items
    c.loop-config.config-index c.loop-config.invariant c.loop-config-test.false
