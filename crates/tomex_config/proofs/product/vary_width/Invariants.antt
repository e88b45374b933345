-- The configurations so far, and the current configuration with the values so far.
use Rattle.std.proofs.Common.{◌≡◌, ◌++◌, take, map}
use Rattle.tomex_config.specs.Configuration.{with_width}
use Rattle.tomex_config.specs.Vary.{vary}
use Rattle.tomex_config.proofs.product.vary_width.Given as goal

abbrev pub invariant-loop-config : goal.invariant-loop-config
invariant-loop-config g l = l.varied.items ≡ vary with_width l.widths (take l.config-index l.rows)

abbrev pub invariant-loop-width : goal.invariant-loop-width
invariant-loop-width g l = l.varied.items ≡ l.initial.varied.items
    ++ map (with_width l.config) (take l.width-index l.widths)
