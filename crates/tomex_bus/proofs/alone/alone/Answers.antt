use Rattle.std.proofs.Common.{◌+◌, ◌≡◌, arith, refl}
use Rattle.tomex_bus.specs.declared.alone.TheConstants.{ALONE}
use Rattle.tomex_bus.proofs.Powers.{power_at}
use Rattle.tomex_bus.proofs.alone.alone.Goals as goal

pub returns : goal.returns
returns c = let first : 0 + c.args.number ≡ c.args.number = omega arith in
    rw first at (power_at ALONE 0 c.args.number refl c.requires)
