-- The options of one kind of unit more.
use Rattle.std.proofs.Common.{arith}
use Rattle.std.proofs.lemmas.Grind.{common_steps}
use Rattle.tomex_layout.proofs.Loops.{items_pushed}
use Rattle.tomex_config.specs.Cost.{all_units}
use Rattle.tomex_rvdec.specs.declared.pool.UnitId.TheVariants.{Alu}
use Rattle.tomex_prices.specs.Prices.{choices_of}
use Rattle.tomex_prices.proofs.study_prices.push_options.Goals as goal

pub loop-unit-preserved : goal.loop-unit-preserved
loop-unit-preserved g c =
    items_pushed (choices_of c.args.rows.now) all_units c.loop-unit.unit-index Alu c.args.prices.now.items
    c.loop-unit.prices.items c.push_choices.new.prices.items c.loop-unit-test.true c.loop-unit.invariant
    c.in_ok-push_choices.ensures

pub returns : goal.returns
returns = grind (arith, common_steps)
