use Rattle.std.proofs.Common.{arith}
use Rattle.std.specs.Int.{w64}
use Rattle.std.proofs.lemmas.Nat.Bits.{bit_at-trailing_zeros}
use Rattle.tomex_bus.proofs.Bits.{has_one, has_none}
use Rattle.tomex_bus.proofs.small.lowest.Goals as goal

pub returns-clause-member : goal.returns-clause-member
returns-clause-member c = has_one _ _ (bit_at-trailing_zeros w64 c.args.set (omega arith) c.ranges.set.fits).1

pub returns-clause-least : goal.returns-clause-least
returns-clause-least c i l = has_none _ i ((bit_at-trailing_zeros w64 c.args.set (omega arith) c.ranges.set.fits).2 i l)
