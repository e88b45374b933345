use Rattle.std.proofs.Common.{◌∙◌, ap}
use Rattle.std.specs.Prelude.{◌==◌}
use Rattle.std.proofs.lemmas.Nat.Bits.{bit_at_or}
use Rattle.tomex_bus.proofs.Bits.{bit_low, one_of}
use Rattle.tomex_bus.proofs.sets.union.Goals as goal

pub returns : goal.returns
returns c x = ap (λ b. b == 1) (bit_at_or c.args.a c.args.b x) ∙ one_of _ _ (bit_low c.args.a x) (bit_low c.args.b x)
