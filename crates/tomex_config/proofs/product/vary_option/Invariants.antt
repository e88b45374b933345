-- The configurations so far, and the current configuration with the values so far.
use Rattle.std.proofs.Common.{◌≡◌, ◌++◌, take, map}
use Rattle.tomex_config.specs.Configuration.{with_option}
use Rattle.tomex_config.specs.Vary.{vary}
use Rattle.tomex_config.proofs.product.vary_option.Given as goal

abbrev pub invariant-loop-config : goal.invariant-loop-config
invariant-loop-config g l = l.varied.items ≡ vary (with_option l.unit) l.options (take l.config-index l.rows)

abbrev pub invariant-loop-option : goal.invariant-loop-option
invariant-loop-option g l = l.varied.items ≡ l.initial.varied.items
    ++ map ((with_option l.unit) l.config) (take l.option-index l.options)
