use Rattle.std.proofs.Common.{◌∙◌, ap}
use Rattle.std.specs.Prelude.{◌==◌, min}
use Rattle.std.specs.Int.{w128, bit_at, bit_not}
use Rattle.std.proofs.lemmas.Nat.Bits.{bit_at_and, bit_at_not}
use Rattle.tomex_bus.proofs.Bits.{bit_low, but_of}
use Rattle.tomex_bus.proofs.sets.difference.Goals as goal

pub returns : goal.returns
returns c x l = ap (λ b. b == 1) (bit_at_and c.args.a (bit_not w128 c.args.b) x
    ∙ ap (λ b. min (bit_at c.args.a x) b) (bit_at_not w128 c.args.b x c.ranges.b.fits l))
    ∙ but_of _ _ (bit_low c.args.a x) (bit_low c.args.b x)
