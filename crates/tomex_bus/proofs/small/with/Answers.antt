use Rattle.std.proofs.Common.{ap}
use Rattle.std.specs.Prelude.{◌==◌}
use Rattle.std.specs.Int.{w64}
use Rattle.std.proofs.lemmas.Nat.Bits.{bit_at_set_same, bit_at_set_other}
use Rattle.tomex_bus.proofs.Bits.{has_one}
use Rattle.tomex_bus.proofs.small.with.Goals as goal

pub returns : goal.returns
returns c = record {
  same = has_one _ c.args.number (bit_at_set_same w64 c.args.set c.args.number c.requires);
  others = λ x apart. ap (λ b. b == 1) (bit_at_set_other w64 c.args.set c.args.number c.requires x apart);
}
