use Rattle.std.proofs.Common.{sym}
use Rattle.tomex_config.specs.Configuration.{is_option, most_units, with_option}
use Rattle.std.proofs.lemmas.List.{append-nil}
use Rattle.tomex_config.proofs.Ranges.{passes_at}
use Rattle.tomex_config.proofs.Grown.{all_rows, one_config, one_value}
use Rattle.tomex_config.proofs.product.vary_option.Goals as goal

pub loop-option-preserved : goal.loop-option-preserved
loop-option-preserved g c = one_value (with_option c.args.unit) c.config-item.result c.args.options.now
    c.loop-option.option-index _ c.loop-config.varied.items c.loop-option.varied.items c.push.new.self.items
    c.with_option.result c.loop-option-test.true c.loop-option.invariant c.with_option.ensures
    c.in_ok-push.ensures.items

pub loop-config-preserved : goal.loop-config-preserved
loop-config-preserved g c = one_config (with_option c.args.unit) c.args.options.now c.args.rows.now
    c.loop-config.config-index c.loop-option.option-index c.config-item.result c.loop-config.varied.items
    c.loop-option.varied.items c.loop-config-test.true c.loop-option-test.false c.loop-config.invariant c.config-item.is
    c.loop-option.invariant

pub with_option-requires : goal.with_option-requires
with_option-requires g c = passes_at (is_option (most_units c.args.unit)) c.args.options.now c.loop-option.option-index
    _ c.requires c.loop-option-test.true

pub loop-config-init : goal.loop-config-init
loop-config-init g c = c.new-varied.ensures.items

pub loop-option-init : goal.loop-option-init
loop-option-init g c = sym (append-nil c.loop-config.varied.items)

pub returns : goal.returns
returns g c = all_rows (with_option c.args.unit) c.args.options.now c.args.rows.now c.loop-config.varied.items
    c.loop-config.config-index c.loop-config.invariant c.loop-config-test.false
