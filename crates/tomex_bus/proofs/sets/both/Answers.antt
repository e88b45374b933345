use Rattle.std.proofs.Common.{◌∙◌, ap}
use Rattle.std.specs.Prelude.{◌==◌}
use Rattle.std.proofs.lemmas.Nat.Bits.{bit_at_and}
use Rattle.tomex_bus.proofs.Bits.{bit_low, both_of}
use Rattle.tomex_bus.proofs.sets.both.Goals as goal

pub returns : goal.returns
returns c x = ap (λ b. b == 1) (bit_at_and c.args.a c.args.b x) ∙ both_of _ _ (bit_low c.args.a x) (bit_low c.args.b x)
